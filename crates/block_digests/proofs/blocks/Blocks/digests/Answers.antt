use Rattle.std.proofs.Common.{ap, sym, subst, ◌∙◌}
use Rattle.block_digests.specs.Kept.{AreDigestsOf, IsKeptOf}
use Rattle.block_digests.specs.steps.Index.{kept_in, position}
use Rattle.block_digests.specs.steps.Mended.{digest_among}
use Rattle.block_digests.proofs.KeptLemmas.{fresh_is, if_ok_three}
use Rattle.block_digests.proofs.blocks.Blocks.digests.Goals as goal

pub returns : goal.returns
returns g c = λ events kept.
    let A = g.E.Arrivals.arrivals c.args.events.now in
    let mid = kept_in c.self.inside.index c.self.inside.blocks.items in
    if_ok_three c.digests_in.result _ _ _ (AreDigestsOf A)
    (λ m found of_sources in_order. record {
      found = λ s k. found s k ∙ ap (λ l. digest_among A l (position c.self.inside.index s k)) c.deref.ensures.value ∙ fresh_is c.blocks_change_by_events.ensures.arrivals A events mid (subst (IsKeptOf A) (sym c.self.view_is) kept) s k;
      of_sources = of_sources;
      in_order = in_order;
    }) c.digests_in.ensures.found c.digests_in.ensures.of_sources c.digests_in.ensures.in_order
