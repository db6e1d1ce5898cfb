-- Summaries compared: what one covers of another, and that two which hold the same are the same.
use Rattle.std.proofs.Common.{◌≡◌, ℕ, Bool, not, Bor, Option, Some, None, zero, suc, ◌<◌, true, false, true≢false, List, [], ◌∷◌, length, ◌++◌, refl, sym, ap, ap₂, subst, ◌∙◌, arith, inl, inr}
use Rattle.std.proofs.lemmas.Bool.{both_ways, cases_Bool, or_cases, and_parts}
use Rattle.std.specs.Map.Iter.{TakesFirst, deref_pair}
use Rattle.std.specs.Option.{is_some}
use Rattle.std.specs.Prelude.{IsTrue, ◌↔◌}
use Rattle.std.specs.declared.string.String.{String}
use Rattle.std.specs.Str.{bytes_eq}
use Rattle.std.specs.declared.cmp.Ordering.TheVariants.{Less}
use Rattle.std.proofs.lemmas.Map.Lookups.{exact_bytes}
use Rattle.std.specs.Map.{keys_of}
use Rattle.std.proofs.lemmas.Map.Keys.{sorted_tail}
use Rattle.coverage.specs.Intervals.{Interval, holds, HoldsAll}
use Rattle.coverage.specs.Numbers.{byte_cmp, Entry, Entries, IsEntry, AreSourcesInOrder, AreListed, AreCovered, numbers_in, holds_in}
use Rattle.coverage.specs.NumbersText.{numbers_text}
use Rattle.coverage.specs.CoverText.{IsCoverText}
use Rattle.coverage.specs.steps.Entries.{sources_in}
use Rattle.coverage.specs.steps.Places.{entry_at}
use Rattle.coverage.proofs.HoldsLemmas.{holds-nil, holds_first, same_numbers-same}
use Rattle.coverage.proofs.RoundLemmas.{same_texts-same}
use Rattle.coverage.proofs.EntriesLemmas.{bytes_eq-equal, bytes_eq-apart, cases_order, less_from_greater, byte_cmp-chain, apart_from_less, numbers_in-head, numbers_in-tail, numbers_in-nowhere, InOrder-at, holds_in-push, is_next, split_more, split_all}

-- ---- what is covered
-- what the entries that are done hold is covered
pub record IsCoveredUpTo (own all left : Entries) : Type 0 where
  pub done : Entries
  pub split : done ++ left ≡ all
  pub covered : AreCovered own done

pub covered_none : (own all left : Entries) → left ≡ all → IsCoveredUpTo own all left
covered_none own all left whole = record {
  done = [];
  split = whole;
  covered = λ s n t. absurd (both_ways _ (holds-nil n) t);
}

pub covered_more : (own all left : Entries) (e : Entry) (rest : Entries) → AreListed all → IsCoveredUpTo own all left → left ≡ e ∷ rest → HoldsAll (numbers_in own e.0) e.1 → IsCoveredUpTo own all rest
covered_more own all left e rest h c is here =
    let next = is_next all c.done left e rest h c.split is in record {
      done = c.done ++ e ∷ [];
      split = split_more all c.done left e rest c.split is;
      covered = λ s n t. elim (or_cases _ _ (sym (holds_in-push c.done e s n next.before) ∙ t)) [
        | inl earlier ↦ c.covered s n earlier
        | inr now ↦
            let parts = and_parts (bytes_eq s e.0) (holds e.1 n) now in
            ap (λ x. holds_in own x n) (bytes_eq-equal s e.0 parts.0) ∙ here n parts.1
      ];
    }

pub covered_all : (own all left : Entries) → IsCoveredUpTo own all left → left ≡ [] → AreCovered own all
covered_all own all left c none = subst (AreCovered own) (split_all all c.done left c.split none) c.covered

pub uncovered_numbers : (own all left : Entries) (e : Entry) (rest : Entries) → AreListed all → IsCoveredUpTo own all left → left ≡ e ∷ rest → AreCovered own all → HoldsAll (numbers_in own e.0) e.1
uncovered_numbers own all left e rest h c is covers n t =
    let next = is_next all c.done left e rest h c.split is in
    covers e.0 n (ap (λ l. holds l n) next.numbers ∙ t)

pub uncovered_source : (own all left : Entries) (e : Entry) (rest : Entries) → AreListed all → IsCoveredUpTo own all left → left ≡ e ∷ rest → numbers_in own e.0 ≡ [] → AreCovered own all → ⊥
uncovered_source own all left e rest h c is none covers =
    let next = is_next all c.done left e rest h c.split is in
    let held = holds_first e.1 next.is_entry.2 next.is_entry.3 in
    both_ways _ (ap (λ l. holds l held.0) none ∙ holds-nil held.0) (uncovered_numbers own all left e rest h c is covers held.0 held.1)

-- ---- the law: what holds the same numbers is the same
-- a source below the first is absent
absent_below : (e : Entry) (es : Entries) (s : List ℕ) → AreSourcesInOrder (e ∷ es) → byte_cmp s e.0 ≡ Less → numbers_in (e ∷ es) s ≡ []
absent_below e es s h less = numbers_in-nowhere (e ∷ es) s (go (e ∷ es) h less)
  where
    go : (l : Entries) → AreSourcesInOrder l → byte_cmp s (entry_at l 0).0 ≡ Less → (k : ℕ) → k < length l → s ≡ (entry_at l k).0 → ⊥
    go l sorted first zero hk = apart_from_less s (entry_at l 0).0 first
    go l sorted first (suc k) hk =
        apart_from_less s (entry_at l (suc k)).0 (byte_cmp-chain s (entry_at l 0).0 (entry_at l (suc k)).0 first (InOrder-at l 0 (suc k) sorted (omega arith) hk))

-- a source that the first list holds, and that is below the second's first
not_same_first : (d e : Entry) (ds es : Entries) → IsEntry d → AreSourcesInOrder (e ∷ es) → ((s : List ℕ) (n : ℕ) → holds_in (d ∷ ds) s n ≡ holds_in (e ∷ es) s n) → byte_cmp d.0 e.0 ≡ Less → ⊥
not_same_first d e ds es entry h same less =
    let held = holds_first d.1 entry.2 entry.3 in
    let here : holds_in (d ∷ ds) d.0 held.0 ≡ true = ap (λ l. holds l held.0) (numbers_in-head d ds d.0 refl) ∙ held.1 in
    let there : holds_in (e ∷ es) d.0 held.0 ≡ false = ap (λ l. holds l held.0) (absent_below e es d.0 h less) ∙ holds-nil held.0 in
    both_ways _ there (sym (same d.0 held.0) ∙ here)

-- a first source doesn't stand again
pub absent_again : (e : Entry) (es : Entries) → AreSourcesInOrder (e ∷ es) → numbers_in es e.0 ≡ []
absent_again e es h = numbers_in-nowhere es e.0 (λ k hk. apart_from_less e.0 (entry_at es k).0 (InOrder-at (e ∷ es) 0 (suc k) h (omega arith) (omega arith)))

pub same_summary : (s t : Entries) → AreListed s → AreListed t → ((x : List ℕ) (n : ℕ) → holds_in s x n ≡ holds_in t x n) → s ≡ t
same_summary [] [] hs ht same = refl
same_summary [] (e ∷ es) hs ht same =
    let held = holds_first e.1 ht.0.0.2 ht.0.0.3 in
    absurd (true≢false (sym held.1 ∙ ap (λ l. holds l held.0) (sym (numbers_in-head e es e.0 refl)) ∙ sym (same e.0 held.0) ∙ holds-nil held.0))
same_summary (d ∷ ds) [] hs ht same =
    let held = holds_first d.1 hs.0.0.2 hs.0.0.3 in
    absurd (true≢false (sym held.1 ∙ ap (λ l. holds l held.0) (sym (numbers_in-head d ds d.0 refl)) ∙ same d.0 held.0 ∙ holds-nil held.0))
same_summary (d ∷ ds) (e ∷ es) hs ht same = elim (cases_order (byte_cmp d.0 e.0)) [
  | inl less ↦ absurd (not_same_first d e ds es hs.0.0 ht.1 same less)
  | inr (inr greater) ↦ absurd (not_same_first e d es ds ht.0.0 hs.1 (λ x n. sym (same x n)) (less_from_greater d.0 e.0 greater))
  | inr (inl equal) ↦
      let key : d.0 ≡ e.0 = exact_bytes d.0 e.0 equal in
      let numbers : d.1 ≡ e.1 = same_numbers-same d.1 e.1 hs.0.0.3 ht.0.0.3 (λ n.
      ap (λ l. holds l n) (sym (numbers_in-head d ds d.0 refl)) ∙ same d.0 n ∙ ap (λ l. holds l n) (numbers_in-head e es d.0 key)) in
      let later : (x : List ℕ) (n : ℕ) → holds_in ds x n ≡ holds_in es x n = λ x n. elim (cases_Bool (bytes_eq x d.0)) [
        | inl t ↦
            let x_is : x ≡ d.0 = bytes_eq-equal x d.0 t in
            ap (λ l. holds l n) (ap (numbers_in ds) x_is ∙ absent_again d ds hs.1 ∙ sym (ap (numbers_in es) (x_is ∙ key) ∙ absent_again e es ht.1))
        | inr f ↦
            let other : x ≡ d.0 → ⊥ = bytes_eq-apart x d.0 f in
            ap (λ l. holds l n) (sym (numbers_in-tail d ds x other)) ∙ same x n ∙ ap (λ l. holds l n) (numbers_in-tail e es x (λ is. other (is ∙ sym key)))
      ] in
      ap₂ ◌∷◌ (ap₂ (λ a b. (a, b)) key numbers)
      (same_summary ds es (hs.0.1, sorted_tail _ d.0 (keys_of ds) hs.1) (ht.0.1, sorted_tail _ e.0 (keys_of es) ht.1) later)
]

-- ---- two summaries entry by entry
-- what is left of two summaries is the same exactly where the summaries are
pub record IsSameUpTo (xs ys left right : Entries) : Type 0 where
  pub forth : left ≡ right → xs ≡ ys
  pub back : xs ≡ ys → left ≡ right

pub same_none : (xs ys left right : Entries) → left ≡ xs → right ≡ ys → IsSameUpTo xs ys left right
same_none xs ys left right p q = record {
  forth = λ e. sym p ∙ e ∙ q;
  back = λ e. p ∙ e ∙ sym q;
}

-- the next entries of both
heads : (d e : Entry) (ds es : Entries) → d ∷ ds ≡ e ∷ es → (d.0 ≡ e.0) × (d.1 ≡ e.1) × (ds ≡ es)
heads d e ds es h =
    let same : d ≡ e = cc in
    (ap (λ (x : Entry). x.0) same, ap (λ (x : Entry). x.1) same, cc)

pub same_more : (xs ys left right : Entries) (d e : Entry) (ds es : Entries) → IsSameUpTo xs ys left right → left ≡ d ∷ ds → right ≡ e ∷ es → d.0 ≡ e.0 → d.1 ≡ e.1 → IsSameUpTo xs ys ds es
same_more xs ys left right d e ds es s p q source numbers = record {
  forth = λ same. s.forth (p ∙ ap₂ ◌∷◌ (ap₂ (λ (a : List ℕ) (b : List Interval). (a, b)) source numbers) same ∙ sym q);
  back = λ same. (heads d e ds es (sym p ∙ s.back same ∙ q)).2;
}

pub not_same_source : (xs ys left right : Entries) (d e : Entry) (ds es : Entries) → IsSameUpTo xs ys left right → left ≡ d ∷ ds → right ≡ e ∷ es → (d.0 ≡ e.0 → ⊥) → xs ≡ ys → ⊥
not_same_source xs ys left right d e ds es s p q apart same = apart (heads d e ds es (sym p ∙ s.back same ∙ q)).0

pub not_same_numbers : (xs ys left right : Entries) (d e : Entry) (ds es : Entries) → IsSameUpTo xs ys left right → left ≡ d ∷ ds → right ≡ e ∷ es → (d.1 ≡ e.1 → ⊥) → xs ≡ ys → ⊥
not_same_numbers xs ys left right d e ds es s p q apart same = apart (heads d e ds es (sym p ∙ s.back same ∙ q)).1

some_entry : (d : Entry) (ds : Entries) → d ∷ ds ≡ [] → ⊥
some_entry d ds h = cc

pub not_same_end : (xs ys left right : Entries) (d : Entry) (ds : Entries) → IsSameUpTo xs ys left right → left ≡ d ∷ ds → right ≡ [] → xs ≡ ys → ⊥
not_same_end xs ys left right d ds s p q same = some_entry d ds (sym p ∙ s.back same ∙ q)

-- the first is at its end, and the answer is whether the second is too
pub same_end : {Y : Type 0} (xs ys left : Entries) (right rest : List (String Y × List Interval)) (r : Option (Bor (String Y) × Bor (List Interval))) (b : Bool) → IsSameUpTo xs ys left (sources_in right) → left ≡ []
    → TakesFirst deref_pair right r rest → is_some r ≡ not b → IsTrue b ↔ (xs ≡ ys)
same_end xs ys left right rest None true s p takes is = (λ _. s.forth (p ∙ sym (ap sources_in takes.0)), λ _. refl)
same_end xs ys left right rest None false s p takes is = absurd (true≢false (sym is))
same_end xs ys left right rest (Some x) true s p takes is = absurd (true≢false is)
same_end xs ys left right rest (Some x) false s p takes is = (
  λ t. absurd (true≢false (sym t)),
  λ same. absurd (some_entry _ _ (sym (ap sources_in takes) ∙ sym (s.back same) ∙ p)),
)

-- texts that a test tells apart, or doesn't
pub same_text : (x y s t : List ℕ) → x ≡ s → y ≡ t → false ≡ not (bytes_eq x y) → s ≡ t
same_text x y s t p q test = sym p ∙ bytes_eq-equal x y (was_true (bytes_eq x y) test) ∙ q
  where
    was_true : (b : Bool) → false ≡ not b → b ≡ true
    was_true true h = refl
    was_true false h = h

pub other_text : (x y s t : List ℕ) → x ≡ s → y ≡ t → true ≡ not (bytes_eq x y) → s ≡ t → ⊥
other_text x y s t p q test same = bytes_eq-apart x y (was_false (bytes_eq x y) test) (p ∙ same ∙ sym q)
  where
    was_false : (b : Bool) → true ≡ not b → b ≡ false
    was_false true h = h
    was_false false h = refl

-- ---- the same by numbers, and by texts
pub same_by_numbers : (xs ys : Entries) (b : Bool) → AreListed xs → AreListed ys → IsTrue b ↔ (xs ≡ ys) → IsTrue b ↔ ((s : List ℕ) (m : ℕ) → holds_in xs s m ≡ holds_in ys s m)
same_by_numbers xs ys b hx hy same = (λ t s m. ap (λ l. holds_in l s m) (same.0 t), λ numbers. same.1 (same_summary xs ys hx hy numbers))

pub same_by_texts : (xs ys : Entries) (b : Bool) → AreListed xs → AreListed ys → IsTrue b ↔ (xs ≡ ys) → IsTrue b ↔ (numbers_text xs ≡ numbers_text ys)
same_by_texts xs ys b hx hy same = (λ t. ap numbers_text (same.0 t), λ texts. same.1 (same_texts-same xs ys hx hy texts))

-- ---- the text that says which numbers are held
pub one_cover_text : (has had : List ℕ → ℕ → Bool) (t u : List ℕ) → ((source : List ℕ) (n : ℕ) → has source n ≡ had source n) → IsCoverText has t → IsCoverText had u → t ≡ u
one_cover_text has had t u same p q =
    p.written
    ∙ ap numbers_text (same_summary p.summary q.summary p.is_summary q.is_summary (λ s n. p.exact s n ∙ same s n ∙ sym (q.exact s n)))
    ∙ sym q.written

pub cover_text_along : (has had : List ℕ → ℕ → Bool) (t : List ℕ) → ((source : List ℕ) (n : ℕ) → has source n ≡ had source n) → IsCoverText has t → IsCoverText had t
cover_text_along has had t same p = record {
  summary = p.summary;
  is_summary = p.is_summary;
  exact = λ s n. p.exact s n ∙ same s n;
  written = p.written;
}
