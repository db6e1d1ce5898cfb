use Rattle.std.proofs.Common.{inl, refl}
use Rattle.library_calls.proofs.number_calls.numbers_number.Goals as goal

pub returns : goal.returns
returns c = let it = c.number_and_tell.ensures in record {
  did = inl (_, _, c.in-Some.is, refl, it.did, it.events);
  length_is = it.length;
}
