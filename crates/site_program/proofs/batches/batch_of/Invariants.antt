use Rattle.std.proofs.Common.{◌++◌, ◌+◌, ◌≤◌, List, length, suc, []}
use Rattle.std.specs.Option.{option_map_or}
use Rattle.attributes.specs.Event.{EventValue}
use Rattle.site_program.specs.Jobs.{IsFirstUnreadLine, SpellLines}
use Rattle.site_commands.specs.Pieces.{lines_from, lines_of}
use Rattle.site_commands.specs.declared.pieces.RefusedLine.{RefusedLine}
use Rattle.site_program.proofs.batches.batch_of.Given as goal

abbrev pub invariant-loop-left : goal.invariant-loop-left
invariant-loop-left l = record {
  spell : (rest : List EventValue) → SpellLines (lines_from l.file l.before (option_map_or (λ rest. lines_of rest.now) l.left [])) rest
      → SpellLines (lines_from l.file 0 (lines_of l.fn.bytes)) (l.events ++ rest);
  first : (r : RefusedLine) → IsFirstUnreadLine (lines_from l.file l.before (option_map_or (λ rest. lines_of rest.now) l.left [])) r
      → IsFirstUnreadLine (lines_from l.file 0 (lines_of l.fn.bytes)) r;
  bound : l.before + option_map_or (λ rest. suc (length rest.now)) l.left 0 ≤ suc (length l.fn.bytes);
}

abbrev pub decreases-loop-left : goal.decreases-loop-left
decreases-loop-left l = option_map_or (λ rest. suc (length rest.now)) l.left 0
