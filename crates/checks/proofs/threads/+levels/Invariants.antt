use Rattle.std.proofs.Common.{◌-◌, ◌*◌}
use Rattle.checks.proofs.threads.+levels.Given as goal

abbrev pub decreases-join+arg2 : goal.decreases-join+arg2
decreases-join+arg2 g l = 2 * l.levels - 1

abbrev pub decreases-join+arg3 : goal.decreases-join+arg3
decreases-join+arg3 g l = 2 * l.levels - 1

abbrev pub decreases-work_together : goal.decreases-work_together
decreases-work_together g l = 2 * l.levels
