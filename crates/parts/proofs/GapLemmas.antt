-- The numbers of a set tell its gaps.
use Rattle.std.proofs.Common.{◌≡◌, ◌<◌, ℕ, List, Bor, Some, get_or, length, map, slice_get, refl, sym, ◌∙◌, subst}
use Rattle.std.proofs.lemmas.Option.{slice_get_read}
use Rattle.attributes.specs.Event.{EventValue}
use Rattle.coverage.specs.Summary.{IsSummary, Sources}
use Rattle.coverage.specs.SummaryText.{summary_text}
use Rattle.views.specs.Number.{Sums}
use Rattle.views.specs.declared.query.Query.TheVariants as query
use Rattle.parts.specs.Combined.{AreAnswers, AreCovers, IsOfFirstVersion}
use Rattle.parts.specs.Gaps.{RefusesGaps, TellsGaps, TellsOther}
use Rattle.parts.specs.Part.{part}
use Rattle.parts.specs.declared.fault.CombineFault.{CombineFault}
use Rattle.parts.specs.declared.fault.CombineFault.TheVariants.{OutOfMemory, NotACover, NotAnAnswer, CoverCount, TooMany, Overlap}
use Rattle.parts.proofs.CoverLemmas.{at_place, map_got, some_is}
use Rattle.parts.proofs.RowLemmas.{numbers}
use Rattle.parts.proofs.WholeLemmas.{all_at, held}

-- what the text at a place tells
pub told_here : (texts : List (Bor (List ℕ))) (summaries : List Sources) (i : ℕ) (d : Bor (List ℕ)) (x : Sources) → i < length texts → i < length summaries → x ≡ get_or summaries i x → TellsGaps x (get_or texts i d).now
    → (text : List ℕ) (s : Sources) → slice_get (map (λ t. t.now) texts) i ≡ Some text → slice_get summaries i ≡ Some s → TellsGaps s text
told_here texts summaries i d x lt le is tells text s got there =
    let same = at_place summaries i x s le is there in
    let words = some_is (get_or texts i d).now text (sym (map_got (λ t. t.now) texts i d lt) ∙ got) in
    subst (λ y. TellsGaps y text) same (subst (TellsGaps x) words tells)

-- a text that tells other gaps is refused
pub other_here : (texts : List (Bor (List ℕ))) (summaries : List Sources) (covers : List (List ℕ)) (i : ℕ) (d : Bor (List ℕ)) (x : Sources) → i < length texts → i < length summaries → AreCovers covers summaries
    → x ≡ get_or summaries i x → TellsOther x (get_or texts i d).now → RefusesGaps (map (λ t. t.now) texts) covers (NotAnAnswer i)
other_here texts summaries covers i d x lt le are is other =
    ((get_or texts i d).now, summaries, x, map_got (λ t. t.now) texts i d lt, are, slice_get_read summaries (length summaries) i x refl le is, other)

module _ (tells : (s t : Sources) → IsSummary s → IsSummary t → summary_text s ≡ summary_text t → s ≡ t)
    (p : List ℕ → ℕ) (E : List EventValue) (texts covers : List (List ℕ)) (answers : AreAnswers query.Gaps p E texts) (are : AreAnswers query.Cover p E covers) where
  of_part : (ss : List Sources) → AreCovers covers ss → (i : ℕ) (s : Sources) → slice_get ss i ≡ Some s → Sums (part p i E) s
  of_part ss read i s got =
      let first = all_at IsOfFirstVersion ss i s read.first got in
      record { version = first.1; in_form = first.0; exact = λ source n. held tells p E covers are ss read i s got source n ∙ sym (numbers p i E source n) }

  pub gaps_memory : (f : CombineFault) → RefusesGaps texts covers f → f ≡ OutOfMemory
  gaps_memory OutOfMemory r = refl
  gaps_memory (NotACover i) r = absurd r
  gaps_memory (NotAnAnswer i) (text, ss, s, got, read, there, other) = absurd (other (part p i E) (of_part ss read i s there) (answers.each i text got))
  gaps_memory (CoverCount m n) r = absurd r
  gaps_memory TooMany r = absurd r
  gaps_memory (Overlap name i j) r = absurd r
