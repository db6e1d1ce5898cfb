-- Each half is shorter.
use Rattle.std.proofs.Common.{length}
use Rattle.parts.proofs.cover.+halves.Given as goal

abbrev pub decreases-unite : goal.decreases-unite
decreases-unite l = length l.summaries.now
