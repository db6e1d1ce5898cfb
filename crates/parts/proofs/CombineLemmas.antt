-- What `combine` gives of the parts of a set, for each question.
use Rattle.std.proofs.Common.{◌≡◌, ◌<◌, ◌^◌, ℕ, List, length, Result, Err}
use Rattle.std.specs.Prelude.{◌⊎◌}
use Rattle.std.specs.Result.{IfErr, IfOk, OnErr}
use Rattle.attributes.specs.Bytes.{byte_cmp}
use Rattle.attributes.specs.Event.{EventValue, text}
use Rattle.attributes.specs.Fault.{IsEvent}
use Rattle.coverage.specs.Summary.{IsSummary, Sources}
use Rattle.coverage.specs.SummaryText.{summary_text}
use Rattle.views.specs.Question.{IsAnswer}
use Rattle.views.specs.Tally.{day_cmp}
use Rattle.views.specs.declared.query.Query.{Query}
use Rattle.views.specs.declared.query.Query.TheVariants as query
use Rattle.parts.specs.Combined.{AreAnswers}
use Rattle.parts.specs.Counts.{AreDays, AreKinds, RefusesBeside, RefusesCounts}
use Rattle.parts.specs.Gaps.{RefusesGaps}
use Rattle.parts.specs.Told.{IsHeld, RefusesTold}
use Rattle.parts.specs.Whole.{ArePartsOf}
use Rattle.parts.specs.declared.fault.CombineFault.{CombineFault}
use Rattle.parts.specs.declared.fault.CombineFault.TheVariants.{OutOfMemory}
use Rattle.parts.proofs.DayLemmas.{days_memory}
use Rattle.parts.proofs.GapLemmas.{gaps_memory}
use Rattle.parts.proofs.KindLemmas.{ReadsBack, kinds_memory}
use Rattle.parts.proofs.SummedLemmas.{taken_beside}
use Rattle.parts.proofs.ToldLemmas.{told_memory}

abbrev pub SummariesTell : Type 0
SummariesTell = (s t : Sources) → IsSummary s → IsSummary t → summary_text s ≡ summary_text t → s ≡ t

abbrev pub EventsTell : Type 0
EventsTell = (e f : EventValue) → IsEvent e → IsEvent f → text e ≡ text f → e ≡ f

-- what a result is where the texts answer the question over the parts of a set
pub record Combines (q : Query) (answers covers : List (List ℕ)) (r : Result (List ℕ) CombineFault) : Type 0 where
  pub combined : (p : List ℕ → ℕ) (E : List EventValue) → IsHeld E → ArePartsOf q p E answers covers → IfOk r (IsAnswer q E)
  pub taken : (p : List ℕ → ℕ) (E : List EventValue) → IsHeld E → ArePartsOf q p E answers covers → OnErr r (r ≡ Err OutOfMemory)

module _ (answers covers : List (List ℕ)) (r : Result (List ℕ) CombineFault) where
  abbrev pub Refused : (CombineFault → Type 0) → Type 0
  Refused Refuses = IfErr r (λ f. RefusesBeside answers covers f ⊎ Refuses f)

  pub kinds_whole : SummariesTell → ReadsBack → ((p : List ℕ → ℕ) (E : List EventValue) → length E < 2 ^ 64 → AreAnswers query.Kinds p E answers → IfOk r (IsAnswer query.Kinds E))
      → Refused (RefusesCounts AreKinds byte_cmp answers) → Combines query.Kinds answers covers r
  kinds_whole tells reads combined refused = record {
    combined = λ p E held parts. combined p E parts.few parts.told;
    taken = λ p E held parts. taken_beside tells p E answers covers parts.covered parts.beside (RefusesCounts AreKinds byte_cmp answers) (kinds_memory reads p E parts.few answers parts.told) r refused;
  }

  pub days_whole : SummariesTell → ReadsBack → ((p : List ℕ → ℕ) (E : List EventValue) → length E < 2 ^ 64 → AreAnswers query.Days p E answers → IfOk r (IsAnswer query.Days E))
      → Refused (RefusesCounts AreDays day_cmp answers) → Combines query.Days answers covers r
  days_whole tells reads combined refused = record {
    combined = λ p E held parts. combined p E parts.few parts.told;
    taken = λ p E held parts. taken_beside tells p E answers covers parts.covered parts.beside (RefusesCounts AreDays day_cmp answers) (days_memory reads p E parts.few answers parts.told) r refused;
  }

  pub gaps_whole : SummariesTell → ((p : List ℕ → ℕ) (E : List EventValue) → AreAnswers query.Cover p E covers → IfOk r (IsAnswer query.Gaps E))
      → Refused (RefusesGaps answers covers) → Combines query.Gaps answers covers r
  gaps_whole tells combined refused = record {
    combined = λ p E held parts. combined p E parts.covered;
    taken = λ p E held parts. taken_beside tells p E answers covers parts.covered parts.beside (RefusesGaps answers covers) (gaps_memory tells p E answers covers parts.told parts.covered) r refused;
  }

  pub conflicts_whole : SummariesTell → EventsTell → ((p : List ℕ → ℕ) (E : List EventValue) → IsHeld E → AreAnswers query.Conflicts p E answers → IfOk r (IsAnswer query.Conflicts E))
      → Refused (RefusesTold query.Conflicts answers) → Combines query.Conflicts answers covers r
  conflicts_whole tells events combined refused = record {
    combined = λ p E held parts. combined p E held parts.told;
    taken = λ p E held parts. taken_beside tells p E answers covers parts.covered parts.beside (RefusesTold query.Conflicts answers) (told_memory events query.Conflicts tt p E held answers parts.told) r refused;
  }

  pub latest_whole : SummariesTell → EventsTell → ((p : List ℕ → ℕ) (E : List EventValue) → IsHeld E → AreAnswers query.Latest p E answers → IfOk r (IsAnswer query.Latest E))
      → Refused (RefusesTold query.Latest answers) → Combines query.Latest answers covers r
  latest_whole tells events combined refused = record {
    combined = λ p E held parts. combined p E held parts.told;
    taken = λ p E held parts. taken_beside tells p E answers covers parts.covered parts.beside (RefusesTold query.Latest answers) (told_memory events query.Latest tt p E held answers parts.told) r refused;
  }
