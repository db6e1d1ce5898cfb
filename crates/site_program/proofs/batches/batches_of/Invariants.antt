use Rattle.std.proofs.Common.{◌++◌, ◌+◌, ◌≤◌, ℕ, List, length}
use Rattle.site_program.specs.Jobs.{AreBatches, IsFirstUnreadLine}
use Rattle.site_commands.specs.Pieces.{lines_behind}
use Rattle.site_commands.specs.declared.pieces.RefusedLine.{RefusedLine}
use Rattle.site_program.proofs.batches.batches_of.Given as goal

abbrev pub invariant-loop-bytes : goal.invariant-loop-bytes
invariant-loop-bytes l = record {
  are : (rest : List (List ℕ)) → AreBatches l.file l.bytes-iterator.rest.items rest → AreBatches l.fn.first l.fn.contents.items (l.batches ++ rest);
  first : (r : RefusedLine) → IsFirstUnreadLine (lines_behind l.file l.bytes-iterator.rest.items) r → IsFirstUnreadLine (lines_behind l.fn.first l.fn.contents.items) r;
  bound : l.file + length l.bytes-iterator.rest.items ≤ l.fn.first + length l.fn.contents.items;
}
