-- Events that are appended one after another.
use Rattle.std.proofs.Common.{◌≡◌, ◌⊎◌, ◌+◌, ◌<◌, ◌≤◌, inl, inr, ℕ, zero, suc, List, [], ◌∷◌, ◌++◌, length, take, slice_get, get_or, Some, refl, sym, ap, subst, ◌∙◌, arith}
use Rattle.std.proofs.lemmas.List.{take_more, take_all}
use Rattle.std.proofs.lemmas.Option.{get_or_from_slice_get, slice_get_within}
use Rattle.attributes.specs.Event.{EventValue}
use Rattle.relay.specs.Route.{Has, AreIn, AreFromEither}

pub has_left : (a b : List EventValue) (e : EventValue) → Has a e → Has (a ++ b) e
has_left [] b e h = absurd h
has_left (x ∷ a) b e (inl is) = inl is
has_left (x ∷ a) b e (inr h) = inr (has_left a b e h)

pub has_right : (a b : List EventValue) (e : EventValue) → Has b e → Has (a ++ b) e
has_right [] b e h = h
has_right (x ∷ a) b e h = inr (has_right a b e h)

pub has_either : (a b : List EventValue) (e : EventValue) → Has (a ++ b) e → Has a e ⊎ Has b e
has_either [] b e h = inr h
has_either (x ∷ a) b e (inl is) = inl (inl is)
has_either (x ∷ a) b e (inr h) = elim (has_either a b e h) [ inl k ↦ inl (inr k) | inr k ↦ inr k ]

has_taken : (n : ℕ) (a : List EventValue) (e : EventValue) → Has (take n a) e → Has a e
has_taken zero a e h = absurd h
has_taken (suc n) [] e h = absurd h
has_taken (suc n) (x ∷ a) e (inl is) = inl is
has_taken (suc n) (x ∷ a) e (inr h) = inr (has_taken n a e h)

-- the first so many of the batch were appended to what was there
abbrev pub Appended : List EventValue → List EventValue → ℕ → List EventValue → Type 0
Appended batch old n new = new ≡ old ++ take n batch

pub append_none : (batch old : List EventValue) → Appended batch old 0 old
append_none batch old = sym (Rattle.std.proofs.Common.append-nil old)

pub append_one : (batch old mid new : List EventValue) (i : ℕ) (e : EventValue) → slice_get batch i ≡ Some e → Appended batch old i mid → new ≡ mid ++ e ∷ [] → Appended batch old (i + 1) new
append_one batch old mid new i e at h is =
    let low : i < length batch = slice_get_within batch i e at in
    let more : take (i + 1) batch ≡ take i batch ++ e ∷ [] = take_more batch i e low ∙ ap (λ x. take i batch ++ x ∷ []) (get_or_from_slice_get batch i e e at) in
    is ∙ ap (λ x. x ++ e ∷ []) h ∙ Rattle.std.proofs.Common.append_assoc old (take i batch) (e ∷ []) ∙ ap (λ x. old ++ x) (sym more)

pub in_appended : (batch old new : List EventValue) (i : ℕ) → Appended batch old i new → AreIn old new
in_appended batch old new i h e k = subst (λ x. Has x e) (sym h) (has_left old (take i batch) e k)

pub of_appended : (batch old new : List EventValue) (i : ℕ) → Appended batch old i new → AreFromEither new old batch
of_appended batch old new i h e k = elim (has_either old (take i batch) e (subst (λ x. Has x e) h k)) [ inl was ↦ inl was | inr new ↦ inr (has_taken i batch e new) ]

pub all_appended : (batch old new : List EventValue) (i : ℕ) → length batch ≤ i → Appended batch old i new → AreIn batch new
all_appended batch old new i high h e k = subst (λ x. Has x e) (sym h) (has_right old (take i batch) e (subst (λ x. Has x e) (sym (take_all i batch high)) k))

pub whole_appended : (batch old new : List EventValue) (i : ℕ) → length batch ≤ i → Appended batch old i new → new ≡ old ++ batch
whole_appended batch old new i high h = h ∙ ap (λ x. old ++ x) (take_all i batch high)
