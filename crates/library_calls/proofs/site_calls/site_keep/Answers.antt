use Rattle.std.proofs.Common.{inl, refl, rules}
use Rattle.library_calls.proofs.site_calls.site_keep.Goals as goal

pub returns-in-File : goal.returns-in-File
returns-in-File c = record {
  did = inl (c.in-File.durable, c.keep_offers-offers.new.durable, c.in-File.is, refl, c.keep_offers-offers.ensures, search rules, c.arrived-reply.ensures.count);
  files = λ _ _. (c.in-File.durable, c.keep_offers-offers.new.durable, c.in-File.is, refl, c.keep_offers-offers.ensures, search rules, c.arrived-reply.ensures.count);
  text = refl;
}
