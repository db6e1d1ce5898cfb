use Rattle.std.specs.Io.KnownBytes.{prepend_known}
use Rattle.line_intake.proofs.LineLemmas.{IsWithin}
use Rattle.line_intake.proofs.line.next_line.Given as goal

abbrev pub invariant-loop : goal.invariant-loop
invariant-loop g l =
    IsWithin (prepend_known l.initial.pending (g.R.Read.remaining l.initial.reader)) (prepend_known l.pending (g.R.Read.remaining l.reader)) l.line.items l.is_long
