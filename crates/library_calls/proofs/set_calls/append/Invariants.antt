use Rattle.std.proofs.Common.{◌≡◌, ◌++◌, min, take}
use Rattle.library_calls.specs.Sets.{bytes_of}
use Rattle.library_calls.proofs.set_calls.append.Given as goal

abbrev pub invariant-loop-i : goal.invariant-loop-i
invariant-loop-i l = (l.part ≡ l.fn.part ++ take l.i l.page) × (l.bytes ≡ min (bytes_of (take l.i l.page)) 18446744073709551615)
