use Rattle.std.proofs.Common.{◌≡◌, take}
use Rattle.std.specs.Prelude.{fold}
use Rattle.numbers.specs.Filter.{hash_step}
use Rattle.numbers.proofs.filter.hash_of.Given as goal

abbrev pub invariant-loop-i : goal.invariant-loop-i
invariant-loop-i l = l.hash ≡ fold hash_step 14695981039346656037 (take l.i l.bytes)
