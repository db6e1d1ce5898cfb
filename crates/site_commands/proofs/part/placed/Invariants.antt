use Rattle.std.proofs.Common.{◌≡◌, take}
use Rattle.coverage.specs.Summary.{sources_of}
use Rattle.site_commands.specs.Parts.{placed}
use Rattle.site_commands.proofs.part.placed.Given as goal

abbrev pub invariant-loop-i : goal.invariant-loop-i
invariant-loop-i l = l.rows ≡ placed l.count (take l.i (sources_of l.summary))
