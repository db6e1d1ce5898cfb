use Rattle.std.proofs.Common.{ap, subst, ◌∙◌, string_bytes}
use Rattle.std.specs.BTreeMap.{insert_entry}
use Rattle.serde_json.specs.Find.{get}
use Rattle.serde_json.specs.View.{view}
use Rattle.coverage.specs.Numbers.{AreListed, byte_cmp}
use Rattle.coverage.specs.steps.Entries.{sources_in}
use Rattle.coverage.proofs.FitLemmas.{digests_from_fit, fit_from_digests}
use Rattle.coverage.proofs.ReadDigestsLemmas.{fits_all, fits_more, fits_no_blocks, fits_no_source, fits_none, fits_only}
use Rattle.coverage.proofs.numbers.Numbers.read_digests.Goals as goal

pub loop-source-init : goal.loop-source-init
loop-source-init c = fits_none c.args.self.now _ _ _ (ap sources_in c.into_iter-source-iterator.ensures.into_iter_gives.0 ∙ c.self.view_is) c.empty-digests.ensures

pub returns-in_default-clause-complete : goal.returns-in_default-clause-complete
returns-in_default-clause-complete c = λ ds h shown.
    let listed = subst AreListed c.self.view_is c.self.invariant in
    fits_no_source c.args.self.now _ (view c.args.blocks.now) _ (string_bytes c.in-Some.source.now, c.in-Some.numbers.now) _ listed c.loop-source.invariant (ap sources_in c.in-Some.ensures.steps)
    (c.in_default.ensures ∙ ap (λ k. get k (view c.args.blocks.now)) c.as_str.ensures.value) ds (fit_from_digests c.args.self.now ds listed h) shown

pub returns-in_default-2-clause-complete : goal.returns-in_default-2-clause-complete
returns-in_default-2-clause-complete c = λ ds h shown.
    let listed = subst AreListed c.self.view_is c.self.invariant in
    let complete = rw c.in_default-2.is at c.in_ok-own.ensures.complete in
    fits_no_blocks c.args.self.now _ (view c.args.blocks.now) _ (string_bytes c.in-Some.source.now, c.in-Some.numbers.now) _ (view c.in-Some-get.list.now) listed c.loop-source.invariant (ap sources_in c.in-Some.ensures.steps)
    (c.in-Some-get.ensures ∙ ap (λ k. get k (view c.args.blocks.now)) c.as_str.ensures.value) complete ds (fit_from_digests c.args.self.now ds listed h) shown

pub loop-source-preserved : goal.loop-source-preserved
loop-source-preserved c =
    let listed = subst AreListed c.self.view_is c.self.invariant in
    let complete = rw c.in-Some-2.is at c.in_ok-own.ensures.complete in
    let fit = rw c.in-Some-2.is at c.in_ok-own.ensures.fit in
    fits_more c.args.self.now _ (view c.args.blocks.now) c.loop-source.digests _ (string_bytes c.in-Some.source.now, c.in-Some.numbers.now) _ (view c.in-Some-get.list.now) c.in-Some-2.own.entries listed c.loop-source.invariant
    (ap sources_in c.in-Some.ensures.steps) (c.in-Some-get.ensures ∙ ap (λ k. get k (view c.args.blocks.now)) c.as_str.ensures.value) fit complete
    (c.in_ok-put.ensures ∙ ap (λ k. insert_entry byte_cmp c.loop-source.digests k c.in-Some-2.own.entries) c.as_str-in-loop-source.ensures.value)

pub returns-clause-exact : goal.returns-clause-exact
returns-clause-exact c =
    let listed = subst AreListed c.self.view_is c.self.invariant in
    digests_from_fit c.args.self.now _ listed (fits_all c.args.self.now _ _ _ c.loop-source.invariant (ap sources_in c.in-None.ensures.steps.0))

pub returns-clause-complete : goal.returns-clause-complete
returns-clause-complete c =
    let listed = subst AreListed c.self.view_is c.self.invariant in
    λ ds h shown. fits_only c.args.self.now _ _ _ c.loop-source.invariant (ap sources_in c.in-None.ensures.steps.0) ds (fit_from_digests c.args.self.now ds listed h) shown
