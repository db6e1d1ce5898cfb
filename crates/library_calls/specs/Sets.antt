-- What a service asks of a site, beside the calls of `Calls`.
use Rattle.std.specs.Prelude.{◌≡◌, ◌≢◌, ◌<◌, ◌≤◌, ◌==◌, ◌⊎◌, ◌*◌, ℕ, List, [], ◌∷◌, length, min, take, if◌then◌else◌, IsUtf8}
use Rattle.std.specs.List.{sum_by}
use Rattle.attributes.specs.Event.{EventValue, text as event_text}
use Rattle.coverage.specs.Digests.{Digests}
use Rattle.coverage.specs.Summary.{Sources, entries_of, version_of}
use Rattle.coverage.specs.SummaryText.{summary_text}
use Rattle.event_files.specs.Numbers.{fault_number}
use Rattle.event_files.specs.Files.{IsRefusal, SpellAll}
use Rattle.event_files.specs.declared.refusal.Refused.{Refused}
use Rattle.inbox.specs.Sets.{set_of}
use Rattle.sha2.specs.Sha256.{sha256}
use Rattle.lag.specs.Blocks.{differing}
use Rattle.lag.specs.Lacking.{Lacks}
use Rattle.site.specs.Delta.{delta}
use Rattle.site.specs.Key.{with_key}
use Rattle.site.specs.Page.{page}
use Rattle.views.specs.Line.{event_lines}
use Rattle.library_calls.specs.Calls.{AnswersCall, IsPageLine, IsPeer, IsRefusedPeer, IsWant, KeepsReplyText}
use Rattle.library_calls.specs.declared.calls.Reply.{Reply}
use Rattle.library_calls.specs.Shown.{Shown}
use Rattle.library_calls.specs.declared.set_calls.Lag.{Lag}
use Rattle.library_calls.specs.declared.set_calls.Name.{Name}

-- ---- arrivals

-- the events of libjumbetai's site that came as the (after+1)st and on, at most 100, as a page
abbrev pub Arrived : ℕ → Shown → Shown → Reply → Type 0
Arrived after held kept reply =
    AnswersCall (IsPageLine (page held.site after 100)) IsWant held kept reply

-- ---- events by their source and id

-- the caller's source and id are both texts, UTF-8, as every source and id is
abbrev pub AreTexts : List ℕ → List ℕ → Type 0
AreTexts source id = IsUtf8 source × IsUtf8 id

-- the events of the set E that have the source and id that a caller gives, the shown one first;
-- bytes that are no text name none
pub record IsNamed (source id : List ℕ) (E events : List EventValue) : Type 0 where
  pub all : AreTexts source id → events ≡ with_key source id E
  pub none : (AreTexts source id → ⊥) → events ≡ []

-- libjumbetai's text has the named events' canonical texts, a line each, and so many they are
abbrev pub IsFound : List ℕ → List ℕ → List EventValue → List ℕ → ℕ → Type 0
IsFound source id E text listed = (events : List EventValue) × IsNamed source id E events
    × (text ≡ event_lines events) × (listed ≡ length events)

-- memory ran out in libjumbetai's call, which it doesn't where there is no such event
abbrev pub WantsFound : List ℕ → List ℕ → List EventValue → ℕ → Type 0
WantsFound source id E status = IsWant status × (with_key source id E ≢ [])

-- what a question for the events of a source and an id leaves and replies
abbrev pub Found : List ℕ → List ℕ → Shown → Shown → Reply → Type 0
Found source id held kept reply = AnswersCall (IsFound source id (set_of held.site))
    (WantsFound source id (set_of held.site)) held kept reply

-- ---- a text let go

-- the text of libjumbetai's site is empty
abbrev pub Released : Shown → Shown → Reply → Type 0
Released held kept reply = KeepsReplyText [] 0 held kept reply

-- ---- the name of a set

-- the SHA-256 by which libjumbetai names the set E: of its summary's text, without a line end
abbrev pub IsNameOf : List EventValue → List ℕ → Type 0
IsNameOf E bytes = (s : Sources) × Digests E s × (bytes ≡ sha256 (summary_text s))

-- libjumbetai tells the name of the set E, or memory ran out
abbrev pub TellsName : List EventValue → Name → Name → Type 0
TellsName E was name = ((name.status ≡ 0) × IsNameOf E name.bytes)
    ⊎ (IsWant name.status × (name.bytes ≡ was.bytes))

-- ---- how far a peer is apart

-- libjumbetai's lag: the first summary lacks so many numbers of the second, the second so many of
-- the first, and so many blocks differ, where both tell of blocks
pub record IsApart (own peer : Sources) (lag : Lag) : Type 0 where
  pub done : lag.status ≡ 0
  pub lacking : lag.lacking < 18446744073709551615 → Lacks own (entries_of peer) lag.lacking
  pub ahead : lag.ahead < 18446744073709551615 → Lacks peer (entries_of own) lag.ahead
  pub untold : version_of peer ≡ 1 → lag.blocks ≡ 0
  pub blocks : version_of own ≡ 2 → version_of peer ≡ 2 → lag.blocks < 18446744073709551615
      → lag.blocks ≡ differing own peer

-- so far are the peer of the caller's bytes and the set E apart
abbrev pub IsLag : List ℕ → List EventValue → Lag → Type 0
IsLag bytes E lag = (peer : Sources) × IsPeer bytes peer
    × ((own : Sources) × Digests E own × IsApart own peer lag)

-- libjumbetai tells how far the peer and the set are apart, or why it doesn't
abbrev pub TellsLag : List ℕ → List EventValue → Lag → Type 0
TellsLag bytes E lag = IsLag bytes E lag
    ⊎ (IsRefusedPeer bytes lag.status × (lag.lacking ≡ 0) × (lag.ahead ≡ 0) × (lag.blocks ≡ 0))

-- ---- parts of what a peer lacks

-- how many events a part has at most, if libjumbetai's caller asks for so many: 0 asks for a page
abbrev pub part_limit : ℕ → ℕ
part_limit most = if most == 0 then 100 else min most 2000

-- how many bytes the texts of events of libjumbetai's part have
abbrev pub bytes_of : List EventValue → ℕ
bytes_of events = sum_by (λ e. length (event_text e)) events

-- any pages before a part's last one have fewer bytes than libjumbetai is asked for, if not 0
abbrev pub IsBounded : ℕ → List EventValue → Type 0
IsBounded size events = size ≢ 0 → (pages : ℕ) → pages * 100 < length events
    → bytes_of (take (pages * 100) events) < size

-- these are the part from a place of a list on, page by page: as many as libjumbetai is asked for,
-- or those up to the page with which they have so many bytes
pub record IsSizedPart (lacking : List EventValue) (from most size : ℕ) (events : List EventValue)
    : Type 0 where
  pub next : events ≡ page lacking from (length events)
  pub few : length events ≤ part_limit most
  pub bounded : IsBounded size events
  pub ended : (events ≡ page lacking from (part_limit most))
      ⊎ ((size ≢ 0) × (size ≤ bytes_of events)
      × ((pages : ℕ) × (length events ≡ pages * 100)))

-- libjumbetai's text is the line of the part from a place of a list on, and so many events it has
abbrev pub IsPartLine : List EventValue → ℕ → ℕ → ℕ → List ℕ → ℕ → Type 0
IsPartLine lacking from most size text listed =
    (events : List EventValue) × IsSizedPart lacking from most size events
    × IsPageLine events text listed

-- libjumbetai's text is the part from this place on of what the bytes' peer lacks of the set E
abbrev pub LacksPart : List ℕ → ℕ → ℕ → ℕ → List EventValue → List ℕ → ℕ → Type 0
LacksPart bytes from most size E text listed =
    (s : Sources) × IsPeer bytes s × IsPartLine (delta E s) from most size text listed

-- what a question for such a part leaves and replies
abbrev pub PartLacked : List ℕ → ℕ → ℕ → ℕ → Shown → Shown → Reply → Type 0
PartLacked bytes from most size held kept reply =
    AnswersCall (LacksPart bytes from most size (set_of held.site)) (IsRefusedPeer bytes)
    held kept reply

-- ---- bytes tested

-- libjumbetai's reply tells how many events the bytes spell, or why a site would take none of them
abbrev pub Tested : List ℕ → Reply → Type 0
Tested bytes reply = (reply.fresh ≡ 0) × (reply.repeated ≡ 0) × (reply.events ≡ 0)
    × (reply.length ≡ 0)
    × (((batch : List EventValue) × SpellAll (bytes ∷ []) batch × (reply.status ≡ 0)
    × (reply.listed ≡ length batch))
    ⊎ ((refused : Refused) × IsRefusal (bytes ∷ []) refused × (reply.listed ≡ 0)
    × (reply.status ≡ fault_number refused.fault)))
