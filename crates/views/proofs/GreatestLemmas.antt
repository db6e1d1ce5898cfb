-- The greatest of some items is one of them, and none is greater.
use Rattle.std.proofs.Common.{◌≡◌, suc, List, [], ◌∷◌, Bool, true, false, ◌&&◌, ◌||◌, refl, sym, subst, ap, ◌∙◌, arith, if◌then◌else◌, Option, Some}
use Rattle.std.specs.Prelude.{Contains, cond, filter, fold}
use Rattle.std.specs.declared.cmp.Ordering.{Ordering}
use Rattle.std.specs.declared.cmp.Ordering.TheVariants.{Less, Equal, Greater}
use Rattle.std.specs.Ordering.{is_lt, ordering_reverse}
use Rattle.std.specs.Cmp.{IsTotalOrder}
use Rattle.std.specs.List.{AllByRecursion, list_any}
use Rattle.std.proofs.lemmas.Cmp.{tied_itself, alike_right, nat_list_cmp_total, nat_cmp_total, then_total, on_total}
use mathlib.Core.Bool.{true≢false}
use Rattle.attributes.specs.Event.{id_of}
use Rattle.views.specs.Latest.{greater, greatest, is_of, number_cmp}
use Rattle.views.specs.Number.{number_or_0}
use Rattle.views.specs.Law.{LatestAreGreatest}
use Rattle.views.proofs.GapLemmas.{all_kept, all_pass}

number_cmp_total : IsTotalOrder number_cmp
number_cmp_total = then_total (on_total (λ e. number_or_0 e) nat_cmp_total) (on_total (λ e. id_of e) nat_list_cmp_total)

module _ {X : Type 0} {C : X → X → Ordering} (o : IsTotalOrder C) where
  abbrev pub next : Option X → X → Option X
  next best x = Some (greater C best x)

  not_less : (r : Ordering) → (r ≡ Less → ⊥) → is_lt r ≡ false
  not_less Less h = absurd (h refl)
  not_less Equal h = refl
  not_less Greater h = refl

  is_not : (r : Ordering) → is_lt r ≡ false → r ≡ Less → ⊥
  is_not r h e = true≢false (sym (ap is_lt e) ∙ h)

  bound : (xs : List X) (b e : X) → fold next (Some b) xs ≡ Some e → (is_lt (C e b) ≡ false) × (list_any (λ f. is_lt (C e f)) xs ≡ false)
  bound [] b e h = let same : b ≡ e = cc in (ap (λ x. is_lt (C e x)) same ∙ ap is_lt (tied_itself o e), refl)
  bound (x ∷ xs) b e h =
      elim (C b x) as (λ r. C b x ≡ r → fold next (Some (if is_lt r then x else b)) xs ≡ Some e → (is_lt (C e b) ≡ false) × ((is_lt (C e x) || list_any (λ f. is_lt (C e f)) xs) ≡ false)) [
        | Less ↦ λ r h.
            let rest = bound xs x e h in
            (not_less (C e b) (λ l. is_not (C e x) rest.0 (o.trans e b x l r)), ap (λ t. t || list_any (λ f. is_lt (C e f)) xs) rest.0 ∙ rest.1)
        | Equal ↦ λ r h.
            let rest = bound xs b e h in
            (rest.0, ap (λ t. t || list_any (λ f. is_lt (C e f)) xs) (ap is_lt (sym (alike_right o b x e r)) ∙ rest.0) ∙ rest.1)
        | Greater ↦ λ r h.
            let rest = bound xs b e h in
            let turned : C x b ≡ Less = o.antisymm x b ∙ ap ordering_reverse r in
            (rest.0, ap (λ t. t || list_any (λ f. is_lt (C e f)) xs) (not_less (C e x) (λ l. is_not (C e b) rest.0 (o.trans e x b l turned))) ∙ rest.1)
      ] refl h

  one_of : (P : X → Type 0) (xs : List X) (b e : X) → P b → AllByRecursion P xs → fold next (Some b) xs ≡ Some e → P e
  one_of P [] b e p a h = let same : b ≡ e = cc in subst P same p
  one_of P (x ∷ xs) b e p a h =
      elim (is_lt (C b x)) as (λ t. fold next (Some (if t then x else b)) xs ≡ Some e → P e) [
        | true ↦ λ h. one_of P xs x e a.0 a.1 h
        | false ↦ λ h. one_of P xs b e p a.1 h
      ] h

  pub greatest_bound : (xs : List X) (e : X) → greatest C xs ≡ Some e → list_any (λ f. is_lt (C e f)) xs ≡ false
  greatest_bound [] e h = cc
  greatest_bound (x ∷ xs) e h = let r = bound xs x e h in ap (λ t. t || list_any (λ f. is_lt (C e f)) xs) r.0 ∙ r.1

  pub greatest_one : (P : X → Type 0) (xs : List X) (e : X) → AllByRecursion P xs → greatest C xs ≡ Some e → P e
  greatest_one P [] e a h = cc
  greatest_one P (x ∷ xs) e a h = one_of P xs x e a.0 a.1 h

any_filtered : {X : Type 0} (p q : X → Bool) (xs : List X) → list_any q (filter p xs) ≡ false → list_any (λ x. p x && q x) xs ≡ false
any_filtered p q [] h = refl
any_filtered p q (x ∷ xs) h =
    elim (p x) as (λ b. list_any q (cond b (x ∷ filter p xs) (filter p xs)) ≡ false → ((b && q x) || list_any (λ x. p x && q x) xs) ≡ false) [
      | true ↦ λ h. elim (q x) as (λ c. (c || list_any q (filter p xs)) ≡ false → (c || list_any (λ x. p x && q x) xs) ≡ false) [
        | true ↦ λ h. h
        | false ↦ λ h. any_filtered p q xs h
      ] h
      | false ↦ λ h. any_filtered p q xs h
    ] h

pub each_there : {X : Type 0} (Q : X → Type 0) (xs : List X) → ((y : X) → Contains xs y → Q y) → AllByRecursion Q xs
each_there Q [] q = tt
each_there Q (x ∷ xs) q = (q x (0, omega arith, refl), each_there Q xs (λ y c. q y (suc c.0, omega (arith, c.1), c.2)))

pub latest_is_greatest : LatestAreGreatest
latest_is_greatest events entity e h = record {
  is_there = greatest_one number_cmp_total (λ x. Contains events x) (filter (is_of entity) events) e (all_kept (is_of entity) (λ x. Contains events x) events (each_there (λ x. Contains events x) events (λ y c. c))) h;
  of_entity = greatest_one number_cmp_total (λ x. is_of entity x ≡ true) (filter (is_of entity) events) e (all_pass (is_of entity) events) h;
  greatest = any_filtered (is_of entity) (λ f. is_lt (number_cmp e f)) events (greatest_bound number_cmp_total (filter (is_of entity) events) e h);
}
