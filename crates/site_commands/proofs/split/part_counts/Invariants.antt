use Rattle.std.proofs.Common.{◌≡◌, List}
use Rattle.attributes.specs.Event.{EventValue}
use Rattle.site_commands.specs.Splits.{part_counts}
use Rattle.site_commands.specs.steps.Splits.{AreAllParts}
use Rattle.site_commands.proofs.split.part_counts.Given as goal

abbrev pub invariant-loop-i : goal.invariant-loop-i
invariant-loop-i l = (events : List EventValue) → AreAllParts l.plan.count events l.parts → l.rows ≡ part_counts l.plan events l.i
