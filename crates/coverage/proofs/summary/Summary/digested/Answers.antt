use Rattle.std.proofs.Common.{◌≡◌, ℕ, List, ap, refl, subst, sym, ◌∙◌}
use Rattle.inbox.specs.Sets.{set_of}
use Rattle.block_digests.specs.Number.{has_number}
use Rattle.coverage.specs.Numbers.{AreListed, holds_in}
use Rattle.coverage.specs.Summary.{holds_at}
use Rattle.coverage.proofs.DigestedLemmas.{are_digests}
use Rattle.coverage.proofs.summary.Summary.digested.Goals as goal

pub invariant_of-result : goal.invariant_of-result
invariant_of-result g c =
    let A = g.E.Arrivals.arrivals c.args.events.now in
    are_digests A c.in_ok-numbers.numbers c.in_ok-digests.digests (subst AreListed (sym c.in_ok-numbers.ensures.copied) c.in_ok-numbers.ensures.summary)
    (λ s n. ap (λ es. holds_in es s n) c.in_ok-numbers.ensures.copied ∙ ap (λ r. holds_at r s n) c.self.view_is ∙ c.requires.numbers s n)
    (c.in_ok-digests.ensures c.requires.events c.requires.kept)

pub returns : goal.returns
returns g c =
    let A = g.E.Arrivals.arrivals c.args.events.now in
    let listed : AreListed c.in_ok-numbers.numbers = subst AreListed (sym c.in_ok-numbers.ensures.copied) c.in_ok-numbers.ensures.summary in
    let numbers : (s : List ℕ) (n : ℕ) → holds_in c.in_ok-numbers.numbers s n ≡ has_number (set_of A) s n =
    λ s n. ap (λ es. holds_in es s n) c.in_ok-numbers.ensures.copied ∙ ap (λ r. holds_at r s n) c.self.view_is ∙ c.requires.numbers s n in
    let d = c.in_ok-digests.ensures c.requires.events c.requires.kept in
    record {
      version = refl;
      in_form = record { listed = listed; digests = are_digests A c.in_ok-numbers.numbers c.in_ok-digests.digests listed numbers d };
      numbers = numbers;
      blocks = d.found;
    }
