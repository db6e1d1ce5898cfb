use Rattle.std.proofs.Common.{◌≡◌, sym, ap, ◌∙◌, subst}
use Rattle.std.proofs.lemmas.Result.{IfOk-weaker}
use Rattle.coverage.specs.Summary.{IsSummary, holds_at, version_of}
use Rattle.inbox.specs.Sets.{AreEvents, set_of}
use Rattle.views.specs.Number.{Sums, has_number}
use Rattle.site.proofs.SumLemmas.{has_number-set_of}
use Rattle.site.proofs.site.Site.numbers.Goals as goal

pub returns-clause-sums : goal.returns-clause-sums
returns-clause-sums c =
    let A = c.args.self.now in
    let are : AreEvents A = subst AreEvents c.self.view_is c.arrived-arrived.ensures.events in
    IfOk-weaker c.copy.result (λ s. s ≡ c.self.inside.summary) (Sums (set_of A)) (λ s same. record {
      version = ap version_of same ∙ c.self.invariant.3;
      in_form = subst IsSummary (sym same) c.copy.ensures.summary;
      exact = λ source n. ap (λ t. holds_at t source n) same ∙ c.self.invariant.0 source n ∙ ap (λ l. has_number l source n) c.self.view_is ∙ sym (has_number-set_of c.sets_are_members.ensures A are source n);
    }) c.copy.ensures.copied
