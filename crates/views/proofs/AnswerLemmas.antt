-- Lines answer questions, and a question has one answer in lines.
use Rattle.std.proofs.Common.{◌≡◌, ℕ, Bool, List, [], Option, Some, None, refl, sym, subst, ap, ◌∙◌, arith}
use Rattle.attributes.specs.Event.{EventValue}
use Rattle.coverage.specs.CoverText.{IsCoverText}
use Rattle.coverage.specs.BlockDigests.{SourceBlocks}
use Rattle.coverage.specs.NumbersText.{numbers_text}
use Rattle.coverage.specs.Summary.{Sources, IsSummary, holds_at, version_of}
use Rattle.coverage.specs.SummaryText.{summary_text}
use Rattle.views.specs.Line.{AreDayLines, conflict_lines, cover_line, event_lines, gap_lines, kind_lines, line}
use Rattle.views.specs.Law.{AnswersAreOne, LinesAreAnswers, SilenceIsAnswer}
use Rattle.views.specs.Number.{has_number}
use Rattle.views.specs.Question.{AreLines, IsAnswer, IsTrueOf, query_of}
use Rattle.views.specs.Tally.{days}
use Rattle.views.specs.declared.query.Query.TheVariants as query
use Rattle.views.specs.declared.query.Answer.{Answer}
use Rattle.views.specs.declared.query.Answer.TheVariants as answer
use Rattle.views.proofs.GapLemmas.{gaps_are_one}
use Rattle.views.proofs.LineLemmas.{day_lines_one}

-- the numbers tell the text, whichever way they are told
abbrev pub CoverTextsAlike : Type 0
CoverTextsAlike =
    (has had : List ℕ → ℕ → Bool) (t : List ℕ) → ((source : List ℕ) (n : ℕ) → has source n ≡ had source n)
    → IsCoverText has t → IsCoverText had t

abbrev pub CoverTextsOne : Type 0
CoverTextsOne =
    (has had : List ℕ → ℕ → Bool) (t u : List ℕ) → ((source : List ℕ) (n : ℕ) → has source n ≡ had source n)
    → IsCoverText has t → IsCoverText had u → t ≡ u

abbrev pub SummariesOne : Type 0
SummariesOne =
    (s t : Sources) → IsSummary s → IsSummary t → version_of s ≡ 1 → version_of t ≡ 1 → ((source : List ℕ) (n : ℕ) → holds_at s source n ≡ holds_at t source n) → s ≡ t

-- a summary of version 1 has the text of its numbers
cover_text : (s : Sources) → version_of s ≡ 1 → IsSummary s → IsCoverText (holds_at s) (summary_text s)
cover_text s one is = record { summary = s.entries; is_summary = is.listed; exact = λ source n. refl; written = by_version s.digests one }
  where
    by_version : (o : Option SourceBlocks) → version_of (record { entries = s.entries; digests = o }) ≡ 1 → summary_text (record { entries = s.entries; digests = o }) ≡ numbers_text s.entries
    by_version None one = refl
    by_version (Some ds) one = absurd (omega (arith, one))

own_lines : CoverTextsAlike → (E : List EventValue) (a : Answer) (text : List ℕ) → IsTrueOf E a → AreLines a text → IsAnswer (query_of a) E text
own_lines alike E (answer.Cover summary) text true lines =
    (summary_text summary, alike (holds_at summary) (has_number E) (summary_text summary) true.exact (cover_text summary true.version true.in_form), lines)
own_lines alike E (answer.Shown events) text true lines = lines ∙ ap event_lines true
own_lines alike E (answer.Conflicts rows) text true lines = lines ∙ ap conflict_lines true
own_lines alike E (answer.Latest events) text true lines = lines ∙ ap event_lines true
own_lines alike E (answer.Kinds rows) text true lines = lines ∙ ap kind_lines true
own_lines alike E (answer.Days rows) text true lines = subst (λ r. AreDayLines r text) true lines
own_lines alike E (answer.Gaps rows) text true lines = (rows, true, lines)

pub lines_are_answers : CoverTextsAlike → LinesAreAnswers
lines_are_answers alike query E a text asked true lines = subst (λ q. IsAnswer q E text) asked (own_lines alike E a text true lines)

pub answers_are_one : CoverTextsOne → SummariesOne → AnswersAreOne
answers_are_one told known query.Cover E t u a b = a.2 ∙ ap line (told (has_number E) (has_number E) a.0 b.0 (λ s n. refl) a.1 b.1) ∙ sym b.2
answers_are_one told known query.Shown E t u a b = a ∙ sym b
answers_are_one told known query.Conflicts E t u a b = a ∙ sym b
answers_are_one told known query.Latest E t u a b = a ∙ sym b
answers_are_one told known query.Kinds E t u a b = a ∙ sym b
answers_are_one told known query.Days E t u a b = day_lines_one (days E) t u a b
answers_are_one told known query.Gaps E t u a b = a.2 ∙ ap gap_lines (gaps_are_one known E a.0 b.0 a.1 b.1) ∙ sym b.2

-- a question that is answered by no line has one text, and that is what its true answers have
own_silence : LinesAreAnswers → AnswersAreOne → (E : List EventValue) (a : Answer) → IsTrueOf E a → IsAnswer (query_of a) E [] → AreLines a []
own_silence written one E (answer.Cover summary) true none = one query.Cover E [] (cover_line summary) none (written query.Cover E (answer.Cover summary) (cover_line summary) refl true refl)
own_silence written one E (answer.Shown events) true none = none ∙ ap event_lines (sym true)
own_silence written one E (answer.Conflicts rows) true none = none ∙ ap conflict_lines (sym true)
own_silence written one E (answer.Latest events) true none = none ∙ ap event_lines (sym true)
own_silence written one E (answer.Kinds rows) true none = none ∙ ap kind_lines (sym true)
own_silence written one E (answer.Days rows) true none = subst (λ r. AreDayLines r []) (sym true) none
own_silence written one E (answer.Gaps rows) true none = one query.Gaps E [] (gap_lines rows) none (written query.Gaps E (answer.Gaps rows) (gap_lines rows) refl true refl)

pub silence_is_answer : LinesAreAnswers → AnswersAreOne → SilenceIsAnswer
silence_is_answer written one query E a asked true none = own_silence written one E a true (subst (λ q. IsAnswer q E []) (sym asked) none)
