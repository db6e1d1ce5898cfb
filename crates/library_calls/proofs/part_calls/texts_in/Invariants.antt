use Rattle.std.proofs.Common.{◌≡◌, ◌+◌, drop, length, map, sum, take}
use Rattle.library_calls.specs.Parts.{cut}
use Rattle.library_calls.proofs.part_calls.texts_in.Given as goal

abbrev pub invariant-loop-i : goal.invariant-loop-i
invariant-loop-i l = (map (λ t. t.now) l.texts.items ≡ cut l.bytes (take l.i l.lengths))
    × (l.rest ≡ drop (sum (take l.i l.lengths)) l.bytes)
    × (sum (take l.i l.lengths) + length l.rest ≡ length l.bytes)
