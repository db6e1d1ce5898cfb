-- Covers of the parts of a set say what the set has.
use Rattle.std.proofs.Common.{◌≡◌, ◌<◌, ℕ, List, [], ◌∷◌, ◌++◌, zero, suc, Bool, true, false, ◌&&◌, length, Some, None, slice_get, get_or, option_map, string_bytes, Result, Ok, Err, refl, sym, ap, ap₂, ◌∙◌, subst, true≢false, arith, eqb-true, eq-eqb}
use Rattle.std.specs.List.{AllByRecursion, list_any}
use Rattle.std.specs.Result.{IfErr, OnErr}
use Rattle.std.proofs.lemmas.List.{length-map}
use Rattle.std.proofs.lemmas.Option.{slice_get-get_or, slice_get-map}
use Rattle.attributes.specs.Event.{EventValue}
use Rattle.coverage.specs.Summary.{IsSummary, Sources, holds_at}
use Rattle.coverage.specs.SummaryText.{summary_text}
use Rattle.views.specs.Line.{cover_line, line}
use Rattle.views.specs.Number.{Sums, has_number}
use Rattle.views.specs.Question.{IsAnswer}
use Rattle.views.specs.declared.query.Query.TheVariants as query
use Rattle.parts.specs.Combined.{AreAnswers, AreCovers, HasAt, IsOfFirstVersion, HoldsUnion, RefusesCovers, RefusesRead}
use Rattle.parts.specs.Part.{falls_to, part}
use Rattle.parts.specs.declared.fault.CombineFault.{CombineFault}
use Rattle.parts.specs.declared.fault.CombineFault.TheVariants.{OutOfMemory, NotACover, NotAnAnswer, CoverCount, TooMany, Overlap}
use Rattle.parts.proofs.CoverLemmas.{any_at, any_found, some_is}
use Rattle.parts.proofs.PartLemmas.{and_left}
use Rattle.parts.proofs.RowLemmas.{numbers}

no_end : (x : ℕ) (ys : List ℕ) → [] ≡ ys ++ x ∷ [] → ⊥
no_end x [] h = cc
no_end x (y ∷ ys) h = cc

pub same_front : (x : ℕ) (a b : List ℕ) → a ++ x ∷ [] ≡ b ++ x ∷ [] → a ≡ b
same_front x [] [] h = refl
same_front x [] (y ∷ ys) h = absurd (no_end x ys (rest h))
  where
    rest : x ∷ [] ≡ y ∷ (ys ++ x ∷ []) → [] ≡ ys ++ x ∷ []
    rest h = cc
same_front x (y ∷ ys) [] h = absurd (no_end x ys (rest h))
  where
    rest : y ∷ (ys ++ x ∷ []) ≡ x ∷ [] → [] ≡ ys ++ x ∷ []
    rest h = cc
same_front x (y ∷ ys) (z ∷ zs) h = ap₂ (λ a l. a ∷ l) (first h) (same_front x ys zs (rest h))
  where
    first : y ∷ (ys ++ x ∷ []) ≡ z ∷ (zs ++ x ∷ []) → y ≡ z
    first h = cc

    rest : y ∷ (ys ++ x ∷ []) ≡ z ∷ (zs ++ x ∷ []) → ys ++ x ∷ [] ≡ zs ++ x ∷ []
    rest h = cc

pub all_at : {X : Type 0} (P : X → Type 0) (xs : List X) (i : ℕ) (x : X) → AllByRecursion P xs → slice_get xs i ≡ Some x → P x
all_at P [] i x a got = cc
all_at P (y ∷ ys) zero x a got = subst P (some_is y x got) a.0
all_at P (y ∷ ys) (suc i) x a got = all_at P ys i x a.1 got

bool_same : (a b : Bool) → (a ≡ true → b ≡ true) → (b ≡ true → a ≡ true) → a ≡ b
bool_same true b f g = sym (f refl)
bool_same false true f g = g refl
bool_same false false f g = refl

pub and_right : (a b : Bool) → (a && b) ≡ true → b ≡ true
and_right true b h = h
and_right false b h = absurd (true≢false (sym h))

pub refuses : (texts : List (List ℕ)) (ss : List Sources) → AreCovers texts ss → (e : CombineFault) → RefusesRead ss e → RefusesCovers texts e
refuses texts ss are OutOfMemory r = tt
refuses texts ss are (NotACover i) r = absurd r
refuses texts ss are (NotAnAnswer i) r = absurd r
refuses texts ss are (CoverCount m n) r = absurd r
refuses texts ss are TooMany r = absurd r
refuses texts ss are (Overlap name i j) r = (ss, are, r.0, r.1, r.2)

module _ (tells : (s t : Sources) → IsSummary s → IsSummary t → summary_text s ≡ summary_text t → s ≡ t)
    (p : List ℕ → ℕ) (E : List EventValue) (texts : List (List ℕ)) (answers : AreAnswers query.Cover p E texts) where
  answered : (i : ℕ) (text : List ℕ) → IsAnswer query.Cover (part p i E) text
      → (t : Sources) × IsOfFirstVersion t × (text ≡ cover_line t) × ((source : List ℕ) (n : ℕ) → holds_at t source n ≡ (has_number E source n && falls_to p i source))
  answered i text a =
      let t : Sources = record { entries = a.1.summary; digests = None } in
      (t, (record { listed = a.1.is_summary; digests = tt }, refl), a.2 ∙ ap line a.1.written, λ source n. a.1.exact source n ∙ numbers p i E source n)

  exact : (s t : Sources) → IsOfFirstVersion s → IsOfFirstVersion t → cover_line s ≡ cover_line t → s ≡ t
  exact s t a b h = tells s t a.0 b.0 (same_front 10 (summary_text s) (summary_text t) h)

  pub held : (ss : List Sources) → AreCovers texts ss → (i : ℕ) (s : Sources) → slice_get ss i ≡ Some s → (source : List ℕ) (n : ℕ)
      → holds_at s source n ≡ (has_number E source n && falls_to p i source)
  held ss are i s got source n =
      let there : slice_get texts i ≡ Some (cover_line s) = sym (ap (λ l. slice_get l i) are.written) ∙ slice_get-map cover_line ss i ∙ ap (option_map cover_line) got in
      let a = answered i (cover_line s) (answers.each i (cover_line s) there) in
      ap (λ t. holds_at t source n) (exact s a.0 (all_at IsOfFirstVersion ss i s are.first got) a.1 a.2) ∙ a.3 source n

  whole : (ss : List Sources) → AreCovers texts ss → (all : Sources) → HoldsUnion ss all → (source : List ℕ) (n : ℕ) → holds_at all source n ≡ has_number E source n
  whole ss are all united source n = united source n ∙ bool_same (list_any (λ t. holds_at t source n) ss) (has_number E source n) there back
    where
      there : list_any (λ t. holds_at t source n) ss ≡ true → has_number E source n ≡ true
      there h =
          let f = any_found (λ t. holds_at t source n) ss h in
          and_left (has_number E source n) (falls_to p f.0 source) (sym (held ss are f.0 f.1 f.2 source n) ∙ f.3)

      count : length texts ≡ length ss
      count = sym (ap length are.written) ∙ length-map ss cover_line

      nothing : Sources
      nothing = record { entries = []; digests = None }

      back : has_number E source n ≡ true → list_any (λ t. holds_at t source n) ss ≡ true
      back h =
          let i = p source in
          let got = slice_get-get_or ss i nothing (subst (λ m. i < m) count (answers.below source)) in
          any_at (λ t. holds_at t source n) ss i (get_or ss i nothing) got
          (held ss are i (get_or ss i nothing) got source n ∙ ap₂ (λ a b. a && b) h (eq-eqb (p source) i refl))

  pub sums : (ss : List Sources) → AreCovers texts ss → (all : Sources) → IsOfFirstVersion all → HoldsUnion ss all → Sums E all
  sums ss are all first united = record { version = first.1; in_form = first.0; exact = whole ss are all united }

  pub memory_alone : (e : CombineFault) → RefusesCovers texts e → e ≡ OutOfMemory
  memory_alone OutOfMemory r = refl
  memory_alone (NotACover i) r = absurd (let a = answered i r.0 (answers.each i r.0 r.1) in r.2 a.0 a.1 a.2)
  memory_alone (NotAnAnswer i) r = absurd r
  memory_alone (CoverCount m n) r = absurd r
  memory_alone TooMany r = absurd r
  memory_alone (Overlap name i j) r =
      let below : i < j = r.2 in
      let in_first : p (string_bytes name) ≡ i = falls r.0 r.1 i r.3 in
      let in_second : p (string_bytes name) ≡ j = falls r.0 r.1 j r.4 in absurd (omega (arith, below, in_first, in_second))
    where
      falls : (ss : List Sources) → AreCovers texts ss → (k : ℕ) → HasAt ss k (string_bytes name) → p (string_bytes name) ≡ k
      falls ss are k has =
          let source = string_bytes name in
          eqb-true (p source) k (and_right (has_number E source has.2.0) (falls_to p k source) (sym (held ss are k has.0 has.1 source has.2.0) ∙ has.2.1))

  pub taken : (r : Result (List ℕ) CombineFault) → IfErr r (RefusesCovers texts) → OnErr r (r ≡ Err OutOfMemory)
  taken (Ok text) h = tt
  taken (Err e) h = ap Err (memory_alone e h)
