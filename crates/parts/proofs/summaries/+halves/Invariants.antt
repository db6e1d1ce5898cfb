-- Each half is shorter.
use Rattle.std.proofs.Common.{length}
use Rattle.parts.proofs.summaries.+halves.Given as goal

abbrev pub decreases-join_all : goal.decreases-join_all
decreases-join_all l = length l.summaries.now
