use Rattle.std.proofs.Common.{inl, inr, refl, rules}
use Rattle.library_calls.proofs.site_calls.site_take.Goals as goal

pub returns-in-File : goal.returns-in-File
returns-in-File c = record {
  took = inr (inl (_, _, c.in-File.is, refl, c.take_events.ensures.takes));
  text = refl;
  length_is = search rules;
  offers = c.let_go.ensures;
}
