-- An event more in the part that it falls to.
use Rattle.std.proofs.Common.{◌≡◌, ◌≢◌, ◌<◌, ◌+◌, ◌==◌, ℕ, List, [], ◌∷◌, ◌++◌, Bool, true, false, cond, get_or, length, set, refl, sym, ap, ◌∙◌, subst, append_assoc, append-nil, arith, eqb-true, get_or-set_other, below_more}
use Rattle.std.proofs.lemmas.Bool.Decides.{nat_tests}
use Rattle.std.proofs.lemmas.Grind.{get_or-set_at}
use Rattle.std.proofs.lemmas.List.{get_or_append_left}
use Rattle.std.proofs.lemmas.Option.{get_or_from_slice_get, slice_get_read}
use Rattle.std.proofs.Math.Seq.{get_or-append_seam}
use Rattle.attributes.specs.Event.{EventValue, source_of}
use Rattle.parts.specs.Part.{part}

apart : (q i : ℕ) → (q == i) ≡ false → i ≢ q
apart q i h e = grind (arith, nat_tests, h, e)

pub moved : (p : List ℕ → ℕ) (xs : List (List EventValue)) (e : EventValue) (rest all events before after : List EventValue) (q : ℕ)
    → q ≡ p (source_of e) → q < length xs → before ≡ get_or xs q before → after ≡ before ++ e ∷ [] → events ≡ e ∷ rest
    → ((i : ℕ) → i < length xs → get_or xs i [] ++ part p i events ≡ part p i all)
    → (i : ℕ) → i < length xs → get_or (set xs q after) i [] ++ part p i rest ≡ part p i all
moved p xs e rest all events before after q falls within read pushed taken inv i lt =
    by (p (source_of e) == i) refl (subst (λ es. get_or xs i [] ++ part p i es ≡ part p i all) taken (inv i lt))
  where
    stands : get_or xs q [] ≡ before
    stands = get_or_from_slice_get xs q before [] (slice_get_read xs (length xs) q before refl within read)

    by : (b : Bool) → (p (source_of e) == i) ≡ b → get_or xs i [] ++ cond b (e ∷ part p i rest) (part p i rest) ≡ part p i all
        → get_or (set xs q after) i [] ++ part p i rest ≡ part p i all
    by true h known =
        let same : i ≡ q = sym (falls ∙ eqb-true (p (source_of e)) i h) in
        ap (λ l. l ++ part p i rest) (get_or-set_at xs q i after [] same within ∙ pushed ∙ ap (λ l. l ++ e ∷ []) (sym stands ∙ ap (λ k. get_or xs k []) (sym same)))
        ∙ append_assoc (get_or xs i []) (e ∷ []) (part p i rest) ∙ known
    by false h known =
        let other : i ≢ q = λ s. apart (p (source_of e)) i h (s ∙ falls) in
        ap (λ l. l ++ part p i rest) (get_or-set_other xs q i after [] other) ∙ known

pub one_more : (xs : List (List EventValue)) (i : ℕ) → length xs ≡ i → ((k : ℕ) → k < i → get_or xs k [] ≡ []) → (k : ℕ) → k < i + 1 → get_or (xs ++ [] ∷ []) k [] ≡ []
one_more xs i len none =
    below_more _ _
    (λ k lt. get_or_append_left xs ([] ∷ []) [] k (subst (λ n. k < n) (sym len) lt) ∙ none k lt)
    (subst (λ n. get_or (xs ++ [] ∷ []) n [] ≡ []) len (get_or-append_seam xs [] [] []))

pub none_left : (p : List ℕ → ℕ) (i : ℕ) (own events all : List EventValue) → (0 < length events → ⊥) → own ++ part p i events ≡ part p i all → own ≡ part p i all
none_left p i own [] all none h = sym (append-nil own) ∙ h
none_left p i own (e ∷ es) all none h = absurd (none (omega arith))
