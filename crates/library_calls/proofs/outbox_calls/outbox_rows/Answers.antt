use Rattle.std.proofs.Common.{inl, refl}
use Rattle.library_calls.proofs.outbox_calls.outbox_rows.Goals as goal

pub returns : goal.returns
returns c = let it = c.show_and_tell.ensures in record {
  did = inl (_, _, c.in-Some.is, refl, it.did, it.tells);
  number = it.number;
  length_is = it.length;
}
