use Rattle.std.proofs.Common.{◌≡◌, ◌++◌, ◌+◌, ◌≤◌, length}
use Rattle.site_commands.specs.Pieces.{file_lines, lines_behind, places_of_lines, bytes_of_lines}
use Rattle.site_commands.proofs.pieces.file_lines.Given as goal

abbrev pub invariant-loop-bytes : goal.invariant-loop-bytes
invariant-loop-bytes l = record {
  texts : l.pieces.texts.items ++ bytes_of_lines (lines_behind l.file l.bytes-iterator.rest.items) ≡ bytes_of_lines (file_lines l.fn.contents.items);
  places : l.pieces.places.items ++ places_of_lines (lines_behind l.file l.bytes-iterator.rest.items) ≡ places_of_lines (file_lines l.fn.contents.items);
  bound : l.file + length l.bytes-iterator.rest.items ≤ length l.fn.contents.items;
}
