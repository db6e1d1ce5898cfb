use Rattle.std.proofs.Common.{◌≡◌, ◌++◌, ◌+◌, ◌≤◌, length, suc, []}
use Rattle.std.specs.Option.{option_map_or}
use Rattle.site_commands.specs.Pieces.{lines_from, lines_of, places_of_lines, bytes_of_lines}
use Rattle.site_commands.proofs.pieces.Pieces.add_file.Given as goal

abbrev pub invariant-loop-left : goal.invariant-loop-left
invariant-loop-left l = record {
  texts : l.self.texts.items ++ bytes_of_lines (lines_from l.file l.before (option_map_or (λ rest. lines_of rest.now) l.left []))
      ≡ l.fn.self.texts.items ++ bytes_of_lines (lines_from l.file 0 (lines_of l.fn.bytes));
  places : l.self.places.items ++ places_of_lines (lines_from l.file l.before (option_map_or (λ rest. lines_of rest.now) l.left []))
      ≡ l.fn.self.places.items ++ places_of_lines (lines_from l.file 0 (lines_of l.fn.bytes));
  bound : l.before + option_map_or (λ rest. suc (length rest.now)) l.left 0 ≤ suc (length l.fn.bytes);
}

abbrev pub decreases-loop-left : goal.decreases-loop-left
decreases-loop-left l = option_map_or (λ rest. suc (length rest.now)) l.left 0
