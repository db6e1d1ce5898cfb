-- What a call leaves of a site in memory, and what it replies.
use Rattle.std.specs.Prelude.{◌≡◌, ◌≢◌, ◌+◌, ◌*◌, ◌<◌, ◌⊎◌, ℕ, List, [], ◌∷◌, ◌++◌, codes, drop, length, take}
use Rattle.attributes.specs.Event.{EventValue}
use Rattle.coverage.specs.Digests.{Digests}
use Rattle.coverage.specs.Refusals.{RefusesSummary}
use Rattle.coverage.specs.Summary.{IsSummary, Sources}
use Rattle.coverage.specs.SummaryText.{summary_text}
use Rattle.coverage.specs.declared.fault.SummaryFault.{SummaryFault}
use Rattle.coverage.specs.declared.fault.SummaryFault.TheVariants as summary
use Rattle.inbox.specs.KeyOrder.{key_cmp}
use Rattle.inbox.specs.Ordered.{append_new}
use Rattle.inbox.specs.Sets.{set_of}
use Rattle.site.specs.Arrival.{LacksArrivalAt as LacksEvent}
use Rattle.site.specs.Delta.{delta}
use Rattle.site.specs.Page.{page}
use Rattle.fault_lines.specs.Lines.{IsFaultText}
use Rattle.event_files.specs.Numbers.{fault_number}
use Rattle.event_files.specs.Files.{IsRefusal, SpellAll}
use Rattle.event_files.specs.declared.refusal.Refused.{Refused}
use Rattle.views.specs.Question.{IsAnswer}
use Rattle.views.specs.declared.query.Query.{Query}
use Rattle.views.specs.declared.query.Query.TheVariants as query
use Rattle.library_calls.specs.declared.calls.Piece.{Piece}
use Rattle.library_calls.specs.declared.calls.Reply.{Reply}
use Rattle.library_calls.specs.Shown.{Shown}
pub use Rattle.event_json.specs.BatchText.{batch_line}
pub use Rattle.coverage.specs.SummaryText.{WithoutLineEnd}

-- ---- events taken

-- libjumbetai's site of the arrivals A took all events of the batch, and has B
abbrev pub TookAll : List EventValue → List EventValue → List EventValue → Reply → Type 0
TookAll batch A B reply = (reply.status ≡ 0) × (B ≡ append_new key_cmp A batch)
    × (length A + reply.fresh ≡ length B) × (reply.fresh + reply.repeated ≡ length batch)

-- memory ran out in libjumbetai's call at a new event of the batch; those before it were taken
abbrev pub TookFront : List EventValue → List EventValue → List EventValue → Reply → Type 0
TookFront batch A B reply = (reply.status ≡ 1) × (length A + reply.fresh ≡ length B)
    × (reply.repeated ≡ 0) × ((taken : ℕ) × (taken < length batch)
    × (B ≡ append_new key_cmp A (take taken batch)) × LacksEvent B batch taken)

-- libjumbetai's site took the batch, as far as memory went
abbrev pub TookBatch : List EventValue → List EventValue → List EventValue → Reply → Type 0
TookBatch batch A B reply = TookAll batch A B reply ⊎ TookFront batch A B reply

-- libjumbetai's call took nothing, and this is why
abbrev pub TookNone : Refused → List EventValue → List EventValue → Reply → Type 0
TookNone refused A B reply = (reply.status ≡ fault_number refused.fault) × (B ≡ A)
    × (reply.fresh ≡ 0) × (reply.repeated ≡ 0)

-- the caller's bytes spell events with numbers, which were taken; or were refused, and nothing was
abbrev pub TookBytes : List ℕ → List EventValue → List EventValue → Reply → Type 0
TookBytes bytes A B reply =
    ((batch : List EventValue) × SpellAll (bytes ∷ []) batch × TookBatch batch A B reply)
    ⊎ ((refused : Refused) × IsRefusal (bytes ∷ []) refused × TookNone refused A B reply)

-- ---- texts answered

-- libjumbetai's text is the one that was made, which has so many events as a page
abbrev pub IsReplyKept : List ℕ → ℕ → List ℕ → Reply → Type 0
IsReplyKept made listed text reply = (reply.status ≡ 0) × (text ≡ made) × (reply.listed ≡ listed)

-- libjumbetai's text is that of before, and this is the status
abbrev pub IsLeft : ℕ → List ℕ → List ℕ → Reply → Type 0
IsLeft status was text reply = (reply.status ≡ status) × (text ≡ was) × (reply.listed ≡ 0)

-- the reply tells of no events that were taken, how many there are, and how many bytes the text has
abbrev pub TellsText : List EventValue → List ℕ → Reply → Type 0
TellsText events text reply = (reply.fresh ≡ 0) × (reply.repeated ≡ 0)
    × (reply.events ≡ length events) × (reply.length ≡ length text)

-- the events of libjumbetai's site stay, and none is said to have been taken
abbrev pub TakesNone : Shown → Shown → Reply → Type 0
TakesNone held kept reply = (kept.site ≡ held.site) × (reply.fresh ≡ 0) × (reply.repeated ≡ 0)

-- the reply tells how many events the site has, and how many bytes the text
abbrev pub TellsRoom : Shown → Reply → Type 0
TellsRoom kept reply = (reply.events ≡ length kept.site) × (reply.length ≡ length kept.text)

-- libjumbetai's text is kept, which has so many events as a page
abbrev pub KeepsReplyText : List ℕ → ℕ → Shown → Shown → Reply → Type 0
KeepsReplyText text listed held kept reply = (reply.status ≡ 0) × (kept.text ≡ text)
    × (reply.listed ≡ listed) × TakesNone held kept reply × TellsRoom kept reply

-- libjumbetai's call answers with a text that has so many events as a page, or tells by its status
-- why there is none; then the text of before stays. The events stay
abbrev pub AnswersCall : (List ℕ → ℕ → Type 0) → (ℕ → Type 0) → Shown → Shown → Reply → Type 0
AnswersCall made refused held kept reply =
    (((reply.status ≡ 0) × made kept.text reply.listed)
    ⊎ (refused reply.status × (kept.text ≡ held.text) × (reply.listed ≡ 0)))
    × TakesNone held kept reply × TellsRoom kept reply

-- the status of libjumbetai's call that is want of memory
abbrev pub IsWant : ℕ → Type 0
IsWant status = status ≡ 1

-- ---- questions asked

-- the number of a question that libjumbetai's caller gives, from 1
abbrev pub question_number : Query → ℕ
question_number query.Cover = 1
question_number query.Shown = 2
question_number query.Conflicts = 3
question_number query.Latest = 4
question_number query.Kinds = 5
question_number query.Days = 6
question_number query.Gaps = 7

-- libjumbetai's text answers the question of this number about the set E, and is no page
abbrev pub AnswersAt : ℕ → List EventValue → List ℕ → ℕ → Type 0
AnswersAt number E text listed =
    ((query : Query) × (number ≡ question_number query) × IsAnswer query E text) × (listed ≡ 0)

-- memory ran out in libjumbetai's call, which it doesn't if there are neither events nor lines
abbrev pub WantsMemoryAt : ℕ → List EventValue → Type 0
WantsMemoryAt number E = (query : Query) × (number ≡ question_number query)
    × (IsAnswer query E [] → E ≢ [])

-- no question that libjumbetai answers has this number
abbrev pub IsNoQuestion : ℕ → Type 0
IsNoQuestion number = (query : Query) → number ≢ question_number query

-- the status why libjumbetai's question of this number about the set E has no answer
abbrev pub IsUnanswered : ℕ → List EventValue → ℕ → Type 0
IsUnanswered number E status =
    (IsWant status × WantsMemoryAt number E) ⊎ ((status ≡ 4) × IsNoQuestion number)

-- what a question of this number leaves and replies
abbrev pub Asked : ℕ → Shown → Shown → Reply → Type 0
Asked number held kept reply = AnswersCall (AnswersAt number (set_of held.site))
    (IsUnanswered number (set_of held.site)) held kept reply

-- ---- the summary

-- libjumbetai's line of the summary that digests the set E, version 2
abbrev pub IsSummaryLine : List EventValue → List ℕ → Type 0
IsSummaryLine E text = (s : Sources) × Digests E s × (text ≡ summary_text s ++ 10 ∷ [])

-- what a question for the summary leaves and replies
abbrev pub Summed : Shown → Shown → Reply → Type 0
Summed held kept reply = AnswersCall
    (λ text listed. IsSummaryLine (set_of held.site) text × (listed ≡ 0)) IsWant held kept reply

-- ---- pages

-- the bytes of libjumbetai's caller are the summary's text, or its line
abbrev pub IsPeer : List ℕ → Sources → Type 0
IsPeer bytes s = IsSummary s × WithoutLineEnd bytes (summary_text s)

-- the status of libjumbetai's call that a refusal of a summary's text is
abbrev pub summary_status : SummaryFault → ℕ
summary_status summary.OutOfMemory = 1
summary_status summary.NotJson = 5
summary_status summary.Shape = 6
summary_status summary.Version = 7
summary_status summary.NotCanonical = 8

-- the status why the caller's bytes give no page: they are no summary's text, or memory ran out
abbrev pub IsRefusedPeer : List ℕ → ℕ → Type 0
IsRefusedPeer bytes status = (text : List ℕ) × WithoutLineEnd bytes text
    × ((why : SummaryFault) × (status ≡ summary_status why) × RefusesSummary text why)

-- libjumbetai's text is the line of these events, and so many they are
abbrev pub IsPageLine : List EventValue → List ℕ → ℕ → Type 0
IsPageLine events text listed = (text ≡ batch_line events) × (listed ≡ length events)

-- libjumbetai's text is the page from this place on of what the peer of the bytes lacks of the set
-- E, at most 100 events
abbrev pub LacksPageAt : List ℕ → ℕ → List EventValue → List ℕ → ℕ → Type 0
LacksPageAt bytes from E text listed =
    (s : Sources) × IsPeer bytes s × IsPageLine (page (delta E s) from 100) text listed

-- what a question for a page of what a peer lacks leaves and replies
abbrev pub Lacked : List ℕ → ℕ → Shown → Shown → Reply → Type 0
Lacked bytes from held kept reply = AnswersCall (LacksPageAt bytes from (set_of held.site))
    (IsRefusedPeer bytes) held kept reply

-- what a question for a page leaves and replies: the page from this place of key order on, at most
-- 100 events
abbrev pub Paged : ℕ → Shown → Shown → Reply → Type 0
Paged from held kept reply = AnswersCall (IsPageLine (page (set_of held.site) from 100))
    IsWant held kept reply

-- ---- what is wrong with bytes

-- what a check of bytes leaves and replies: the lines that tell of a file `-` what is wrong
-- with it
abbrev pub Checked : List ℕ → Shown → Shown → Reply → Type 0
Checked bytes held kept reply = AnswersCall
    (λ text listed. IsFaultText (codes "-") bytes text × (listed ≡ 0)) IsWant held kept reply

-- ---- views kept

-- libjumbetai's call was done, or memory ran out
abbrev pub IsDoneOrWant : ℕ → Type 0
IsDoneOrWant status = (status ≡ 0) ⊎ IsWant status

-- what a call that has views kept leaves and replies: the events and the text stay
abbrev pub Viewed : Shown → Shown → Reply → Type 0
Viewed held kept reply = IsDoneOrWant reply.status × (kept.text ≡ held.text)
    × (reply.listed ≡ 0) × TakesNone held kept reply × TellsRoom kept reply

-- ---- pieces read

-- the piece of libjumbetai's text with this number, from 0; behind the text's end it has no bytes
abbrev pub piece_of : ℕ → List ℕ → List ℕ
piece_of number text = take 4096 (drop (number * 4096) text)

-- the piece with this number of libjumbetai's text is copied, and how many bytes it has is told; the
-- room behind it stays
abbrev pub IsPieceRead : ℕ → List ℕ → Piece → Piece → Type 0
IsPieceRead number text was piece = (piece.length ≡ length (piece_of number text))
    × (take piece.length piece.bytes ≡ piece_of number text)
    × (drop piece.length piece.bytes ≡ drop piece.length was.bytes)
