use Rattle.std.proofs.Common.{◌≡◌, ◌-◌, ◌<◌, ◌≤◌, ℕ, List, length, Some, slice_get, arith, sym, ap, ◌∙◌, subst}
use Rattle.inbox.specs.declared.places.Late.{Late}
use Rattle.inbox.specs.steps.Woven.{order, woven}
use Rattle.inbox.proofs.PlaceLemmas.{at_late, at_settled, settled_there}
use Rattle.inbox.proofs.places.Places.at.Goals as goal

pub index-requires : goal.index-requires
index-requires c =
    let S : List ℕ = c.self.inside.settled.items in
    let late : List Late = c.self.inside.late.items in
    let k : ℕ = c.late_among-late.result in
    let in_range : c.args.i < length (woven 0 S late) = subst (λ p. c.args.i < length (order p)) (sym c.self.view_is) c.requires in
    let there : c.args.i - k < length S = settled_there c.args.i k S late c.self.invariant.0
    (subst (λ (q : List Late). k ≤ length q) c.deref.ensures.value c.late_among-late.ensures.within)
    c.late_among-late.ensures.few in_range
    (λ j l u e. c.late_among-late.ensures.before j u l (ap (λ (q : List Late). slice_get q j) c.deref.ensures.value ∙ e))
    (λ l e. c.late_among-late.ensures.after l (ap (λ (q : List Late). slice_get q k) c.deref.ensures.value ∙ e))
    (λ l e. c.in-None.ensures.none l (ap (λ (q : List Late). slice_get q k) c.deref-2.ensures.value ∙ e)) in
    omega (arith, there, c.self.inside.settled.ok.0)

pub returns-in-Some : goal.returns-in-Some
returns-in-Some c =
    let found = c.in-Some.ensures.some in
    let k : ℕ = c.late_among-late.result in
    let here : slice_get c.self.inside.late.items k ≡ Some found.item = ap (λ (q : List Late). slice_get q k) (sym c.deref-2.ensures.value) ∙ found.is_there in
    subst (λ p. slice_get (order p) c.args.i ≡ Some c.in-Some.position) c.self.view_is
    (at_late c.args.i k c.self.inside.settled.items c.self.inside.late.items found.item c.self.invariant.0 here found.place ∙ ap Some (sym found.is_position))

pub returns-in-None : goal.returns-in-None
returns-in-None c =
    let S : List ℕ = c.self.inside.settled.items in
    let late : List Late = c.self.inside.late.items in
    let k : ℕ = c.late_among-late.result in
    let in_range : c.args.i < length (woven 0 S late) = subst (λ p. c.args.i < length (order p)) (sym c.self.view_is) c.requires in
    subst (λ p. slice_get (order p) c.args.i ≡ Some c.index.result.now) c.self.view_is
    (at_settled c.args.i k S late c.self.invariant.0
    (subst (λ (q : List Late). k ≤ length q) c.deref.ensures.value c.late_among-late.ensures.within)
    c.late_among-late.ensures.few in_range
    (λ j l u e. c.late_among-late.ensures.before j u l (ap (λ (q : List Late). slice_get q j) c.deref.ensures.value ∙ e))
    (λ l e. c.late_among-late.ensures.after l (ap (λ (q : List Late). slice_get q k) c.deref.ensures.value ∙ e))
    (λ l e. c.in-None.ensures.none l (ap (λ (q : List Late). slice_get q k) c.deref-2.ensures.value ∙ e))
    c.index.result.now
    ∙ ap Some (sym c.index.ensures))
