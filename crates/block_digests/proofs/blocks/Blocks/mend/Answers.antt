use Rattle.std.proofs.Common.{sym, subst}
use Rattle.block_digests.specs.Kept.{IsKeptOf}
use Rattle.block_digests.specs.steps.Index.{kept_in, position}
use Rattle.block_digests.proofs.KeptLemmas.{ok_along, has_mended, kept_mended, mended_at, mended_or_same_at}
use Rattle.block_digests.proofs.blocks.Blocks.mend.Goals as goal

pub returns-clause-kept : goal.returns-clause-kept
returns-clause-kept g c = λ events kept.
    let A = g.E.Arrivals.arrivals c.args.events.now in
    let old = kept_in c.self.inside.index c.self.inside.blocks.items in
    kept_mended c.blocks_change_by_events.ensures.arrivals A events old (subst (IsKeptOf A) (sym c.self.view_is) kept) _
    (λ s k. mended_or_same_at A c.self.inside.blocks.items c.mend_all.new.blocks.items c.mend_all.ensures.each (position c.self.inside.index s k))

pub returns-clause-digests : goal.returns-clause-digests
returns-clause-digests g c = λ events kept.
    let A = g.E.Arrivals.arrivals c.args.events.now in
    let old = kept_in c.self.inside.index c.self.inside.blocks.items in
    ok_along c.mend_all.result _ _
    (λ m. has_mended c.blocks_change_by_events.ensures.arrivals A events old (subst (IsKeptOf A) (sym c.self.view_is) kept) _
    (λ s k. mended_at A c.self.inside.blocks.items c.mend_all.new.blocks.items m (position c.self.inside.index s k))) c.mend_all.ensures.ok
