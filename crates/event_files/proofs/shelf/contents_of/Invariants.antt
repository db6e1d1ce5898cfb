use Rattle.std.proofs.Common.{take}
use Rattle.event_files.specs.Shelves.{AreContents}
use Rattle.event_files.proofs.shelf.contents_of.Given as goal

abbrev pub invariant-loop-file : goal.invariant-loop-file
invariant-loop-file g l = AreContents (g.S.Shelf.is_content l.shelf) (take l.file l.names) l.contents.items
