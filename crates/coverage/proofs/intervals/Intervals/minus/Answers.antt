use Rattle.std.proofs.Common.{sym, ap, ap₂, ◌&&◌, ◌||◌, ◌∙◌, nat_le, not}
use Rattle.std.proofs.lemmas.Result.{IfOk-weaker}
use Rattle.coverage.specs.Intervals.{holds}
use Rattle.coverage.proofs.HoldsLemmas.{holds-nil}
use Rattle.coverage.proofs.GapsLemmas.{without_members}
use Rattle.coverage.proofs.intervals.Intervals.minus.Goals as goal

pub returns-in_default-clause-members : goal.returns-in_default-clause-members
returns-in_default-clause-members c = λ n.
    c.empty-in_default.ensures.members n ∙ sym (ap (λ l. holds l n && not (holds c.args.other.now n)) c.in_default.ensures.value ∙ ap (λ b. b && not (holds c.args.other.now n)) (holds-nil n))

pub returns-clause-members : goal.returns-clause-members
returns-clause-members c =
    let own = c.args.self.now in
    let top = c.in-Some.top in
    let outside = c.in_ok-outside.outside.items in
    let taken = c.in_ok-taken.taken.items in
    let left = c.in_ok-left.left.items in
    IfOk-weaker c.of_pairs.result _ _
    (λ r same n. ap (λ l. holds l n) (same ∙ c.deref-5.ensures.value)
    ∙ without_members own c.args.other.now top n (holds outside n) (holds taken n) (holds left n) c.pairs.ensures.canonical c.in-Some.ensures.value
    (c.in_ok-outside.ensures.members n ∙ ap (λ l. nat_le 1 n && (nat_le n top && not (holds l n))) (c.deref.ensures.value ∙ c.in_ok-own.ensures.pairs))
    (c.in_ok-taken.ensures.members n ∙ ap₂ (λ a b. holds a n || holds b n) c.deref-2.ensures.value (c.deref-3.ensures.value ∙ c.in_ok-others.ensures.pairs))
    (c.in_ok-left.ensures.members n ∙ ap (λ l. nat_le 1 n && (nat_le n top && not (holds l n))) c.deref-4.ensures.value))
    c.of_pairs.ensures
