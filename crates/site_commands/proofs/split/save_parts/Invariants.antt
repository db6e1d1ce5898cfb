use Rattle.std.proofs.Common.{List}
use Rattle.attributes.specs.Event.{EventValue}
use Rattle.site_commands.specs.Outputs.{GrewBy}
use Rattle.site_commands.specs.Splits.{part_files}
use Rattle.site_commands.specs.steps.Splits.{AreAllParts}
use Rattle.site_commands.proofs.split.save_parts.Given as goal

abbrev pub invariant-loop-i : goal.invariant-loop-i
invariant-loop-i g l =
    (events : List EventValue) → AreAllParts l.plan.count events l.parts
    → GrewBy (g.W.Outputs.outputs l.initial.outputs) (g.W.Outputs.outputs l.outputs) (part_files l.plan events l.i)
