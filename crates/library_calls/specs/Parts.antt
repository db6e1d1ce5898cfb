-- What the calls on a region in parts leave in the room, and what they reply.
use Rattle.std.specs.Prelude.{◌≡◌, ◌<◌, ◌≤◌, ◌≢◌, ◌+◌, ◌-◌, ◌⊎◌, ℕ, List, [], ◌∷◌, All, IsUtf8, Some, drop, if◌then◌else◌, length, nat_lt, slice_get, string_bytes, sum, take}
use Rattle.attributes.specs.Event.{EventValue}
use Rattle.event_files.specs.Numbers.{fault_number}
use Rattle.event_files.specs.Files.{IsRefusal, SpellAll}
use Rattle.event_files.specs.declared.refusal.Refused.{Refused}
use Rattle.parts.specs.Part.{IsCountOfParts, of_parts, part, part_of}
use Rattle.parts.specs.Summaries.{AreApartSummaries, AreSummaries, IsSummaryOf, RefusesSummaries}
use Rattle.parts.specs.Told.{IsHeld}
use Rattle.parts.specs.Whole.{AreApartIn, ArePartsOf, RefusesParts}
use Rattle.parts.specs.declared.fault.CombineFault.{CombineFault}
use Rattle.parts.specs.declared.fault.CombineFault.TheVariants as fault
use Rattle.views.specs.Question.{IsAnswer}
use Rattle.views.specs.declared.query.Query.{Query}
use Rattle.library_calls.specs.Calls.{AnswersCall, IsDoneOrWant, IsNoQuestion, IsWant, batch_line, question_number}
use Rattle.library_calls.specs.declared.calls.Reply.{Reply}
use Rattle.library_calls.specs.Offers.{no_offers}
use Rattle.library_calls.specs.Shown.{Shown}
use Rattle.library_calls.specs.declared.held.Held.{Held}
use Rattle.library_calls.specs.declared.part_calls.CombineReply.{CombineReply}
pub use Rattle.parts.specs.Whole.{has_covers, no_answer}

-- ---- the part of a source

-- a region can't be in so many parts as libjumbetai's caller asks for
abbrev pub IsNoCount : ℕ → Type 0
IsNoCount count = IsCountOfParts count → ⊥

-- what `jumbetai_source_part` answers and tells
abbrev pub TellsSourcePart : List ℕ → ℕ → ℕ → ℕ → Type 0
TellsSourcePart source count status place =
    ((status ≡ 0) × IsCountOfParts count × (place ≡ part_of count source))
    ⊎ ((status ≡ 32) × IsNoCount count × (place ≡ 0))

-- ---- events in parts

-- libjumbetai's line for each part, in the order of the parts: the batch of its events
abbrev pub part_lines : ℕ → List EventValue → List ℕ
part_lines count events = of_parts count (λ i. batch_line (part (part_of count) i events))

-- libjumbetai's text has the events that the bytes spell, which are so many, in parts
abbrev pub IsSplit : List ℕ → ℕ → List ℕ → ℕ → Type 0
IsSplit bytes count text listed = IsCountOfParts count × ((batch : List EventValue)
    × SpellAll (bytes ∷ []) batch × (text ≡ part_lines count batch) × (listed ≡ length batch))

-- why libjumbetai has no parts: there can't be so many; the bytes are refused; memory ran out
abbrev pub IsUnsplit : List ℕ → ℕ → ℕ → Type 0
IsUnsplit bytes count status = ((status ≡ 32) × IsNoCount count)
    ⊎ (IsCountOfParts count × (IsWant status ⊎ ((refused : Refused) × IsRefusal (bytes ∷ []) refused
    × (status ≡ fault_number refused.fault))))

-- what a question for the parts of the bytes' events leaves and replies
abbrev pub Split : List ℕ → ℕ → Shown → Shown → Reply → Type 0
Split bytes count held kept reply =
    AnswersCall (IsSplit bytes count) (IsUnsplit bytes count) held kept reply

-- ---- texts of parts

-- the texts that lie one behind the other in the caller's bytes, by how many bytes each has
abbrev pub cut : List ℕ → List ℕ → List (List ℕ)
cut bytes [] = []
cut bytes (n ∷ lengths) = take n bytes ∷ cut (drop n bytes) lengths

-- the caller's bytes end before the text of parts at the place does, or it isn't UTF-8
abbrev pub IsNoPartText : List ℕ → List ℕ → ℕ → Type 0
IsNoPartText bytes lengths i = (n : ℕ) × (slice_get lengths i ≡ Some n)
    × ((length bytes < sum (take (i + 1) lengths))
    ⊎ ((text : List ℕ) × (slice_get (cut bytes lengths) i ≡ Some text) × (IsUtf8 text → ⊥)))

-- texts that libjumbetai's caller gives: so many answers, and behind them the covers, by how many
-- bytes each has
pub record Texts : Type 0 where
  pub answers : ℕ
  pub bytes : List ℕ
  pub lengths : List ℕ

-- the lengths of the caller's texts that are looked at
abbrev pub lengths_of : Query → Texts → List ℕ
lengths_of q given = if has_covers q then given.lengths else take given.answers given.lengths

-- the texts of parts that libjumbetai's caller gives
abbrev pub texts_of : Query → Texts → List (List ℕ)
texts_of q given = cut given.bytes (lengths_of q given)

-- the answers of parts that libjumbetai's caller gives
abbrev pub answers_given : Query → Texts → List (List ℕ)
answers_given q given = take given.answers (texts_of q given)

-- the covers of parts that libjumbetai's caller gives
abbrev pub covers_of : Query → Texts → List (List ℕ)
covers_of q given = drop given.answers (texts_of q given)

-- the texts of parts lie in the caller's bytes, and are UTF-8
abbrev pub AreTexts : Query → Texts → Type 0
AreTexts q given =
    (sum (lengths_of q given) ≤ length given.bytes) × All IsUtf8 (texts_of q given)

-- ---- the answer of the whole

-- libjumbetai's answers over the parts of a set want memory alone
abbrev pub WantsMemoryAlone : Query → Texts → Type 0 → Type 0
WantsMemoryAlone q given Want = AreTexts q given
    → (p : List ℕ → ℕ) (E : List EventValue) → IsHeld E
    → ArePartsOf q p E (answers_given q given) (covers_of q given) → Want

-- where the caller's texts are the answers of a set's parts, and the parts' covers beside them, the
-- text is the answer over the set; they lie in the bytes, and no source stands in two of them
pub record IsWholeOfTexts (q : Query) (given : Texts) (text : List ℕ) : Type 0 where
  pub there : sum (lengths_of q given) ≤ length given.bytes
  pub combined : (p : List ℕ → ℕ) (E : List EventValue) → IsHeld E
      → ArePartsOf q p E (answers_given q given) (covers_of q given) → IsAnswer q E text
  pub apart : AreApartIn q (answers_given q given) (covers_of q given)

-- the fault of a text of libjumbetai's caller that is none, where so many are answers
abbrev pub no_text : Query → ℕ → ℕ → CombineFault
no_text q answers i =
    if nat_lt i answers then no_answer q i else fault.NotACover (i - answers)

-- memory ran out; or one of the caller's texts is none; or they are refused as a whole's parts
abbrev pub RefusesTexts : Query → Texts → CombineFault → Type 0
RefusesTexts q given f = (f ≡ fault.OutOfMemory)
    ⊎ (((i : ℕ) × (f ≡ no_text q given.answers i) × IsNoPartText given.bytes (lengths_of q given) i)
    ⊎ RefusesParts q (answers_given q given) (covers_of q given) f)

-- the status of libjumbetai's call that a fault of parts is
abbrev pub combine_status : CombineFault → ℕ
combine_status fault.OutOfMemory = 1
combine_status (fault.NotACover i) = 33
combine_status (fault.NotAnAnswer i) = 34
combine_status (fault.CoverCount answers covers) = 35
combine_status fault.TooMany = 36
combine_status (fault.Overlap source i j) = 37

-- the part of which libjumbetai's fault tells, or the first of two; how many answers there are
abbrev pub first_part_of : CombineFault → ℕ
first_part_of fault.OutOfMemory = 0
first_part_of (fault.NotACover i) = i
first_part_of (fault.NotAnAnswer i) = i
first_part_of (fault.CoverCount answers covers) = answers
first_part_of fault.TooMany = 0
first_part_of (fault.Overlap source i j) = i

-- the second of two parts of which libjumbetai's fault tells; how many covers there are
abbrev pub second_of : CombineFault → ℕ
second_of fault.OutOfMemory = 0
second_of (fault.NotACover i) = 0
second_of (fault.NotAnAnswer i) = 0
second_of (fault.CoverCount answers covers) = covers
second_of fault.TooMany = 0
second_of (fault.Overlap source i j) = j

-- the text that stands in libjumbetai's room: the source that stands in two parts, else the last
abbrev pub text_after : List ℕ → CombineFault → List ℕ
text_after was (fault.Overlap source i j) = string_bytes source
text_after was fault.OutOfMemory = was
text_after was (fault.NotACover i) = was
text_after was (fault.NotAnAnswer i) = was
text_after was (fault.CoverCount answers covers) = was
text_after was fault.TooMany = was

-- the reply of libjumbetai has this status, and tells of no parts
abbrev pub TellsCombineStatus : ℕ → CombineReply → Type 0
TellsCombineStatus status reply =
    (reply.status ≡ status) × (reply.first ≡ 0) × (reply.second ≡ 0)

-- the reply of libjumbetai tells of the fault of parts
abbrev pub TellsCombineFault : CombineFault → CombineReply → Type 0
TellsCombineFault f reply = (reply.status ≡ combine_status f) × (reply.first ≡ first_part_of f)
    × (reply.second ≡ second_of f)

-- libjumbetai's text is the answer of the whole to the question; or the fault is told of
abbrev pub AnswersWhole : Query → Texts → List ℕ → List ℕ → CombineReply → Type 0
AnswersWhole q given was text reply = (TellsCombineStatus 0 reply × IsWholeOfTexts q given text)
    ⊎ ((f : CombineFault) × RefusesTexts q given f × TellsCombineFault f reply
    × (text ≡ text_after was f))

-- ---- the summary of the whole

-- the number that libjumbetai gives the summary, behind those of the questions
abbrev pub summary_number : ℕ
summary_number = 8

-- the lengths of the caller's summaries; what lies behind them isn't looked at
abbrev pub summary_lengths : Texts → List ℕ
summary_lengths given = take given.answers given.lengths

-- the summaries of parts that libjumbetai's caller gives
abbrev pub summaries_of : Texts → List (List ℕ)
summaries_of given = cut given.bytes (summary_lengths given)

-- summaries lie in the caller's bytes, and are UTF-8; those of a set's parts want memory alone
abbrev pub SummariesWantMemoryAlone : Texts → Type 0 → Type 0
SummariesWantMemoryAlone given Want =
    (sum (summary_lengths given) ≤ length given.bytes) × All IsUtf8 (summaries_of given)
    → (p : List ℕ → ℕ) (E : List EventValue) → AreSummaries p E (summaries_of given) → Want

-- where the caller's texts are the summaries of the parts of a set, the text is that of the set;
-- they lie in the bytes, and no source stands in two of them
pub record IsWholeSummary (given : Texts) (text : List ℕ) : Type 0 where
  pub there : sum (summary_lengths given) ≤ length given.bytes
  pub combined : (p : List ℕ → ℕ) (E : List EventValue) → AreSummaries p E (summaries_of given)
      → IsSummaryOf E text
  pub apart : AreApartSummaries (summaries_of given)

-- memory ran out; or one of the caller's texts is none; or they are refused as parts' summaries
abbrev pub RefusesSummaryTexts : Texts → CombineFault → Type 0
RefusesSummaryTexts given f = (f ≡ fault.OutOfMemory)
    ⊎ (((i : ℕ) × (f ≡ fault.NotAnAnswer i) × IsNoPartText given.bytes (summary_lengths given) i)
    ⊎ RefusesSummaries (summaries_of given) f)

-- libjumbetai's text is the summary of the whole; or the fault is told of
abbrev pub AnswersSummary : Texts → List ℕ → List ℕ → CombineReply → Type 0
AnswersSummary given was text reply = (TellsCombineStatus 0 reply × IsWholeSummary given text)
    ⊎ ((f : CombineFault) × RefusesSummaryTexts given f × TellsCombineFault f reply
    × (text ≡ text_after was f))

-- ---- what a number stands for

-- libjumbetai's text is the answer to the question of this number, or the summary; or the number
-- stands for neither, and the text is that of before
abbrev pub AnswersQuestionOrSummary : ℕ → Texts → List ℕ → List ℕ → CombineReply → Type 0
AnswersQuestionOrSummary number given was text reply =
    (TellsCombineStatus 4 reply × (IsNoQuestion number × (number ≢ summary_number)) × (text ≡ was))
    ⊎ (((q : Query) × (number ≡ question_number q) × AnswersWhole q given was text reply)
    ⊎ ((number ≡ summary_number) × AnswersSummary given was text reply))

-- what `jumbetai_site_combine` leaves and replies
pub record Combined (number : ℕ) (given : Texts) (held kept : Held) (reply : CombineReply)
    : Type 0 where
  pub site : kept.site ≡ held.site
  pub offers : kept.offers ≡ no_offers
  pub length_is : reply.length ≡ length kept.text
  pub told : AnswersQuestionOrSummary number given held.text kept.text reply
  pub taken : (q : Query) → number ≡ question_number q
      → WantsMemoryAlone q given (IsDoneOrWant reply.status)
  pub summary_taken : number ≡ summary_number
      → SummariesWantMemoryAlone given (IsDoneOrWant reply.status)
