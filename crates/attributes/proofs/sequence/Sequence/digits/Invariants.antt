use Rattle.std.proofs.Common.{◌≡◌, ◌-◌, replicate, string_bytes, length}
use Rattle.attributes.proofs.sequence.Sequence.digits.Given as goal

abbrev pub invariant-loop-place : goal.invariant-loop-place
invariant-loop-place l = string_bytes l.text ≡ replicate (l._place - length (string_bytes l.digits)) 48
