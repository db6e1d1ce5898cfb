use Rattle.std.proofs.Common.{refl}
use Rattle.library_calls.proofs.file_calls.made.Goals as goal

pub returns-then-is_empty-clause-ok : goal.returns-then-is_empty-clause-ok
returns-then-is_empty-clause-ok c = record {
  over = c.in-Ok.ensures.opens;
  counted = c.if-is_empty.ensures.0 refl;
}
