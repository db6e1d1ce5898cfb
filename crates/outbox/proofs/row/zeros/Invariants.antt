use Rattle.std.proofs.Common.{◌≡◌, replicate, string_bytes}
use Rattle.outbox.proofs.row.zeros.Given as goal

abbrev pub invariant-loop-place : goal.invariant-loop-place
invariant-loop-place l = string_bytes l.text ≡ replicate l._place 48
