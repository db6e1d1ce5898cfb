-- What the parts of a set count comes to what the set counts.
use Rattle.std.proofs.Common.{◌≡◌, ◌≤◌, ◌<◌, ◌+◌, ◌^◌, ℕ, List, [], ◌∷◌, Bool, true, false, cond, filter, length, Some, slice_get, refl, sym, ap, ◌∙◌, arith, is_eq, Result, Ok, Err, inl, inr}
use Rattle.std.specs.Prelude.{◌⊎◌}
use Rattle.std.specs.declared.cmp.Ordering.{Ordering}
use Rattle.std.specs.declared.cmp.Ordering.TheVariants.{Equal}
use Rattle.std.specs.Cmp.{IsTotalOrder}
use Rattle.std.specs.Result.{IfErr, OnErr}
use Rattle.std.proofs.lemmas.List.Sums.{count_by-le-length}
use Rattle.attributes.specs.Event.{EventValue, source_of}
use Rattle.coverage.specs.Summary.{IsSummary, Sources}
use Rattle.coverage.specs.SummaryText.{summary_text}
use Rattle.views.specs.Question.{IsAnswer}
use Rattle.views.specs.Tally.{tally}
use Rattle.views.specs.declared.query.Query.{Query}
use Rattle.views.specs.declared.query.Query.TheVariants as query
use Rattle.parts.specs.Combined.{AreAnswers}
use Rattle.parts.specs.Counts.{AreTooMany, RefusesBeside, RefusesCounts}
use Rattle.parts.specs.Lines.{AreJoined}
use Rattle.parts.specs.Merge.{added}
use Rattle.parts.specs.Part.{falls_to, of_parts, part}
use Rattle.parts.specs.declared.fault.CombineFault.{CombineFault}
use Rattle.parts.specs.declared.fault.CombineFault.TheVariants.{OutOfMemory, NotACover, NotAnAnswer, CoverCount, TooMany, Overlap}
use Rattle.parts.proofs.CountLemmas.{sum}
use Rattle.parts.proofs.LineLemmas.{joined_parts}
use Rattle.parts.proofs.SumLemmas.{sumn, sumr}
use Rattle.parts.proofs.TallyLemmas.{summed, tally_added}
use Rattle.parts.proofs.WholeLemmas.{memory_alone}

pub count_left : {X : Type 0} (q : X → Bool) (xs : List X) → length (filter q xs) ≤ length xs
count_left q [] = omega arith
count_left {X} q (x ∷ xs) = by (q x) (count_left q xs)
  where
    by : (b : Bool) → length (filter q xs) ≤ length xs → length (cond b (x ∷ filter q xs) (filter q xs)) ≤ length (x ∷ xs)
    by true h = omega (arith, h)
    by false h = omega (arith, h)

module _ {K : Type 0} {R : K → K → Ordering} (o : IsTotalOrder R) (exact : (x y : K) → R x y ≡ Equal → x ≡ y)
    (q : Query) (Tells : List ℕ → List (K × ℕ) → Type 0) (keys : List EventValue → List K)
    (one : (t : List ℕ) (rows others : List (K × ℕ)) → Tells t rows → Tells t others → rows ≡ others)
    (fits : (E : List EventValue) → length (keys E) ≤ length E)
    (answered : (E : List EventValue) → length E < 2 ^ 64 → (t : List ℕ) → IsAnswer q E t → Tells t (tally R (keys E)))
    (p : List ℕ → ℕ) (E : List EventValue) (small : length E < 2 ^ 64) (texts : List (List ℕ)) (answers : AreAnswers q p E texts)
    (adds : (k : K) → sumn 0 (length texts) (λ i. sumr (λ j. cond (is_eq (R k j)) 1 0) (keys (part p i E))) ≡ sumr (λ j. cond (is_eq (R k j)) 1 0) (keys E)) where
  of_part : (i : ℕ) (t : List ℕ) → slice_get texts i ≡ Some t → Tells t (tally R (keys (part p i E)))
  of_part i t got =
      let left = count_left (λ e. falls_to p i (source_of e)) E in
      answered (part p i E) (omega (arith, left, small)) t (answers.each i t got)

  all_parts : (rows : List (K × ℕ)) → AreJoined Tells texts rows → rows ≡ of_parts (length texts) (λ i. tally R (keys (part p i E)))
  all_parts rows joined =
      joined_parts Tells (λ i. tally R (keys (part p i E))) 0 texts rows joined
      (λ i t own got is.
      one t own (tally R (keys (part p i E))) is (of_part i t got) ∙ ap (λ k. tally R (keys (part p k E))) (let e : i ≡ 0 + i = omega arith in e))

  pub sums : (rows : List (K × ℕ)) → AreJoined Tells texts rows → added R rows ≡ tally R (keys E)
  sums rows joined =
      ap (added R) (all_parts rows joined) ∙ sym (tally_added o exact (length texts) (λ i. keys (part p i E)) (keys E) adds)

  not_many : (rows : List (K × ℕ)) → AreJoined Tells texts rows → AreTooMany R rows → ⊥
  not_many rows joined (k, many) =
      let total = ap (sum o exact k) (all_parts rows joined) ∙ summed o exact (length texts) (λ i. keys (part p i E)) (keys E) adds k in
      let most = count_by-le-length (λ j. is_eq (R k j)) (keys E) in
      omega (arith, total, many, most, fits E, small)

  pub memory_of_counts : (f : CombineFault) → RefusesCounts Tells R texts f → f ≡ OutOfMemory
  memory_of_counts OutOfMemory r = refl
  memory_of_counts (NotACover i) r = absurd r
  memory_of_counts (NotAnAnswer i) r = absurd (r.2 (tally R (keys (part p i E))) (of_part i r.0 r.1))
  memory_of_counts (CoverCount m n) r = absurd r
  memory_of_counts TooMany r = absurd (not_many r.0 r.1 r.2)
  memory_of_counts (Overlap name i j) r = absurd r

-- ---- covers beside answers

module _ (tells : (s t : Sources) → IsSummary s → IsSummary t → summary_text s ≡ summary_text t → s ≡ t)
    (p : List ℕ → ℕ) (E : List EventValue) (answers covers : List (List ℕ)) (are : AreAnswers query.Cover p E covers) (beside : length covers ≡ length answers) where
  memory_beside : (f : CombineFault) → RefusesBeside answers covers f → f ≡ OutOfMemory
  memory_beside OutOfMemory r = refl
  memory_beside (NotACover i) r = memory_alone tells p E covers are (NotACover i) r
  memory_beside (NotAnAnswer i) r = absurd r
  memory_beside (CoverCount m n) r = absurd (r.2 (r.1 ∙ beside ∙ sym r.0))
  memory_beside TooMany r = absurd r
  memory_beside (Overlap name i j) r = memory_alone tells p E covers are (Overlap name i j) r

  pub taken_beside : (Refused : CombineFault → Type 0) → ((f : CombineFault) → Refused f → f ≡ OutOfMemory) → (r : Result (List ℕ) CombineFault)
      → IfErr r (λ f. RefusesBeside answers covers f ⊎ Refused f) → OnErr r (r ≡ Err OutOfMemory)
  taken_beside Refused memory (Ok text) h = tt
  taken_beside Refused memory (Err f) h = ap Err (elim h as (λ _. f ≡ OutOfMemory) [ inl r ↦ memory_beside f r | inr r ↦ memory f r ])
