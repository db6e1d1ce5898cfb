use Rattle.std.proofs.Common.{take}
use Rattle.event_files.specs.Files.{SpellAll}
use Rattle.event_files.proofs.intake.events_of.Given as goal

abbrev pub invariant-loop-file : goal.invariant-loop-file
invariant-loop-file g l = SpellAll (take l.file l.files) l.events
