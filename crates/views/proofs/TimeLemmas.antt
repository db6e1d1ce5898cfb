-- Whether a shown event has a time.
use Rattle.std.proofs.Common.{◌≡◌, ℕ, zero, suc, ◌+◌, ◌++◌, ◌∙◌, Bool, true, false, ◌&&◌, List, [], ◌∷◌, Option, Some, None, is_some, cond, filter, take, slice_get, refl, sym, ap, ap₂, arith}
use Rattle.std.specs.Prelude.{ℤ, Contains, filter_map}
use Rattle.std.specs.List.{cons_option}
use Rattle.std.proofs.lemmas.List.{append-nil}
use Rattle.std.proofs.lemmas.List.Elements.{filter_map-append}
use Rattle.attributes.specs.Event.{EventValue}
use Rattle.inbox.specs.Shown.{is_shown}
use Rattle.views.specs.Tally.{HasTime, kind_and_day}
use Rattle.views.proofs.StepLemmas.{filter_kept, filter_left_out}

-- an item that passes is one of those that do
in_filter : {X : Type 0} (p : X → Bool) (xs : List X) (i : ℕ) (x : X) → slice_get xs i ≡ Some x → p x ≡ true → Contains (filter p xs) x
in_filter p [] i x h t = absurd (cc)
in_filter p (y ∷ ys) zero x h t = let same : y ≡ x = cc in first (p y) (ap p same ∙ t) same
  where
    first : (b : Bool) → b ≡ true → y ≡ x → Contains (cond b (y ∷ filter p ys) (filter p ys)) x
    first true e same = (0, omega arith, same)
    first false e same = absurd (cc)
in_filter p (y ∷ ys) (suc i) x h t = kept (p y) (in_filter p ys i x h t)
  where
    kept : (b : Bool) → Contains (filter p ys) x → Contains (cond b (y ∷ filter p ys) (filter p ys)) x
    kept true c = (suc c.0, omega (arith, c.1), c.2)
    kept false c = c

module _ (E : List EventValue) (i : ℕ) (e : EventValue) (here : slice_get E i ≡ Some e) where
  abbrev days_before : ℕ → List (List ℕ × ℤ)
  days_before n = filter_map kind_and_day (filter (is_shown E) (take n E))

  pub no_time_more : (is_some (kind_and_day e) && is_shown E e) ≡ false → days_before i ≡ [] → days_before (i + 1) ≡ []
  no_time_more f none = by_cases (is_shown E e) (kind_and_day e) refl refl
    where
      by_cases : (b : Bool) (o : Option (List ℕ × ℤ)) → is_shown E e ≡ b → kind_and_day e ≡ o → days_before (i + 1) ≡ []
      by_cases false o s k = ap (filter_map kind_and_day) (filter_left_out (is_shown E) E i e here s) ∙ none
      by_cases true None s k =
          ap (filter_map kind_and_day) (filter_kept (is_shown E) E i e here s) ∙ filter_map-append kind_and_day (filter (is_shown E) (take i E)) (e ∷ [])
          ∙ ap (λ o. days_before i ++ cons_option o []) k ∙ append-nil (days_before i) ∙ none
      by_cases true (Some d) s k =
          let both : true ≡ false = sym (ap₂ (λ o b. is_some o && b) k s) ∙ f in
          absurd (cc)

  pub time_there : (is_some (kind_and_day e) && is_shown E e) ≡ true → HasTime E
  time_there t = by_cases (is_shown E e) (kind_and_day e) refl refl
    where
      by_cases : (b : Bool) (o : Option (List ℕ × ℤ)) → is_shown E e ≡ b → kind_and_day e ≡ o → HasTime E
      by_cases true (Some d) s k = (e, in_filter (is_shown E) E i e here s, (d, k))
      by_cases true None s k = let both : false ≡ true = sym (ap₂ (λ o b. is_some o && b) k s) ∙ t in absurd (cc)
      by_cases false (Some d) s k = let both : false ≡ true = sym (ap₂ (λ o b. is_some o && b) k s) ∙ t in absurd (cc)
      by_cases false None s k = let both : false ≡ true = sym (ap₂ (λ o b. is_some o && b) k s) ∙ t in absurd (cc)
