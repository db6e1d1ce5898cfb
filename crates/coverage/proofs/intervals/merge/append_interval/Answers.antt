use Rattle.std.proofs.Common.{◌≡◌, ◌∙◌, ◌≤◌, ◌++◌, ◌∷◌, [], List, ℕ, ap, sym, subst, arith}
use Rattle.std.proofs.lemmas.List.{nil_from_length}
use Rattle.coverage.specs.Intervals.{Interval, IsCanonical}
use Rattle.coverage.specs.steps.Starts.{last_start_or, StartsAtMost}
use Rattle.coverage.proofs.HoldsLemmas.{last_start_or-push}
use Rattle.coverage.proofs.MergeLemmas.{IsExtended, ends_with, extended_first, extended_apart, extended_joined}
use Rattle.coverage.proofs.intervals.merge.append_interval.Goals as goal

-- where the last interval starts, which is no later than the new one
starts_before : (old xs : List Interval) (last : Interval) (n : ℕ) → old ≡ xs ++ last ∷ [] → StartsAtMost old n → last.0 ≤ n
starts_before old xs last n items h = omega (arith, ap (last_start_or 0) items, last_start_or-push 0 xs last, h)

moved : (old xs new ys : List Interval) (p : Interval) → old ≡ xs → new ≡ ys → IsExtended xs p ys → IsExtended old p new
moved old xs new ys p is_old is_new e = subst (λ (o : List Interval). IsExtended o p new) (sym is_old) (subst (λ (n : List Interval). IsExtended xs p n) (sym is_new) e)

pub overflow_add-last : goal.overflow_add-last
overflow_add-last c =
    let end = ends_with c.pop.new.self.items c.in-Some.last (subst IsCanonical c.in-Some.ensures.items c.requires.canonical) in
    omega (arith, end.bounded)

pub returns-in_ok-push-in-None : goal.returns-in_ok-push-in-None
returns-in_ok-push-in-None c =
    let p = c.args.interval in
    let none : c.pop.new.self.items ≡ [] = nil_from_length c.pop.new.self.items (sym c.pop.new.self.ok.0 ∙ c.in-None.ensures.cases.1) in
    let was : c.args.pairs.now.items ≡ [] = c.in-None.ensures.items ∙ ap (λ (xs : List Interval). xs ++ []) none in
    let e = moved c.args.pairs.now.items [] c.push.new.self.items (p ∷ []) p was (c.in_ok-push-in-None.ensures.items ∙ ap (λ (xs : List Interval). xs ++ p ∷ []) none) (extended_first p c.requires.from c.requires.ordered c.requires.bounded) in
    record { canonical = e.canonical; members = e.members; starts = e.starts }

pub returns-in_ok-push-in-Some : goal.returns-in_ok-push-in-Some
returns-in_ok-push-in-Some c =
    let p = c.args.interval in
    let xs = c.pop.new.self.items in
    let last = c.in-Some.last in
    let items = c.in-Some.ensures.items in
    let later = starts_before c.args.pairs.now.items xs last p.0 items c.requires.last in
    let e = moved c.args.pairs.now.items (xs ++ last ∷ []) c.push-then-interval-last.new.self.items (xs ++ (last.0, c.max.result) ∷ []) p items c.in_ok-push-in-Some.ensures.items
    (extended_joined xs last p c.max.result (subst IsCanonical items c.requires.canonical) later c.if-interval-last.true c.requires.ordered c.requires.bounded c.max.ensures) in
    record { canonical = e.canonical; members = e.members; starts = e.starts }

pub returns-in_ok-push-in-Some-3 : goal.returns-in_ok-push-in-Some-3
returns-in_ok-push-in-Some-3 c =
    let p = c.args.interval in
    let xs = c.pop.new.self.items in
    let last = c.in-Some.last in
    let items = c.in-Some.ensures.items in
    let again : c.push-else-interval-last.new.self.items ≡ xs ++ last ∷ [] = c.in_ok-push-in-Some-2.ensures.items in
    let e = moved c.args.pairs.now.items (xs ++ last ∷ []) c.push-else-interval-last-2.new.self.items ((xs ++ last ∷ []) ++ p ∷ []) p items (c.in_ok-push-in-Some-3.ensures.items ∙ ap (λ (ys : List Interval). ys ++ p ∷ []) again)
    (extended_apart xs last p (subst IsCanonical items c.requires.canonical) (omega (arith, c.if-interval-last.false)) c.requires.ordered c.requires.bounded) in
    record { canonical = e.canonical; members = e.members; starts = e.starts }
