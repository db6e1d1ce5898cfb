-- What a call leaves of the site that lies in a caller's room, in memory or over files, and what it
-- replies.
use Rattle.std.specs.Prelude.{◌≡◌, ◌≢◌, ◌<◌, ◌⊎◌, ℕ, List, [], length, ⊤}
use Rattle.attributes.specs.Event.{EventValue}
use Rattle.durable_site.specs.Files.{Closes}
use Rattle.sqlite.specs.Files.{file_state}
use Rattle.inbox.specs.Sets.{set_of}
use Rattle.library_calls.specs.Calls.{Asked, Checked, IsPieceRead, IsWant, Lacked, Paged, Summed, TookBytes, Viewed}
use Rattle.library_calls.specs.Files.{IsOpenedFile, IsUnopenedFor, KeepsBytes, TellsNone}
use Rattle.library_calls.specs.Offers.{AnswerAt, IsOfferedBehind, KeepsOffers, ReadsBody, no_offers}
use Rattle.library_calls.specs.Parts.{Split}
use Rattle.library_calls.specs.Sets.{Arrived, Found, PartLacked, Released, TellsLag, TellsName}
use Rattle.library_calls.specs.Shown.{Shown}
use Rattle.library_calls.specs.declared.calls.Piece.{Piece}
use Rattle.library_calls.specs.declared.calls.Reply.{Reply}
use Rattle.library_calls.specs.declared.held.Held.{Held}
use Rattle.library_calls.specs.declared.held.HeldSite.{HeldSite}
use Rattle.library_calls.specs.declared.held.HeldSite.TheVariants.{Closed, File, Memory}
use Rattle.library_calls.specs.declared.offers.Head.{Head}
use Rattle.library_calls.specs.declared.set_calls.Lag.{Lag}
use Rattle.library_calls.specs.declared.set_calls.Name.{Name}

-- ---- sites in memory, over files, and none

-- the events of the site in libjumbetai's room; of one over files those that are counted
abbrev pub events_of : HeldSite → List EventValue
events_of (Memory s) = s
events_of (File d) = d.site
events_of Closed = []

-- libjumbetai's site in memory did this
abbrev pub DidInMemory : (Shown → Shown → Type 0) → Held → Held → Type 0
DidInMemory call held kept =
    (s : List EventValue) × (t : List EventValue)
    × (held.site ≡ Memory s) × (kept.site ≡ Memory t)
    × call (record { site = s; text = held.text }) (record { site = t; text = kept.text })

-- libjumbetai's site over files did this as one in memory; its table stays, and what is owed
abbrev pub DidOverFiles : (Shown → Shown → Type 0) → Held → Held → Type 0
DidOverFiles call held kept =
    (d : _) × (e : _) × (held.site ≡ File d) × (kept.site ≡ File e)
    × (e.table ≡ d.table) × (e.owed ≡ d.owed)
    × call (record { site = d.site; text = held.text }) (record { site = e.site; text = kept.text })

-- no site is open in libjumbetai's room, and the text stays
abbrev pub IsShut : Held → Held → Type 0
IsShut held kept = (held.site ≡ Closed) × (kept.site ≡ Closed) × (kept.text ≡ held.text)

-- libjumbetai's site did this, in memory or over files, where its table stays, and what is owed; or
-- none is open, and this is told. Bodies that were offered are let go
abbrev pub Did : (Shown → Shown → Type 0) → Type 0 → Held → Held → Type 0
Did call shut held kept = (kept.offers ≡ no_offers)
    × (DidInMemory call held kept ⊎ (DidOverFiles call held kept ⊎ (IsShut held kept × shut)))

-- the reply says that no site of libjumbetai is open
pub record TellsShut (kept : Held) (reply : Reply) : Type 0 where
  pub status : reply.status ≡ 11
  pub none : TellsNone reply
  pub events : reply.events ≡ 0
  pub length_is : reply.length ≡ length kept.text

-- ---- a site opened

-- what `jumbetai_site_open` leaves: a site in memory without events, and the empty text
abbrev pub IsEmpty : Held → Type 0
IsEmpty held = (held.site ≡ Memory []) × (held.text ≡ []) × (held.offers ≡ no_offers)

-- what `jumbetai_site_open_files` leaves and replies
pub record Opened (kept : Held) (reply : Reply) : Type 0 where
  pub opened : reply.status ≡ 0
      → (d : _) × (kept.site ≡ File d) × IsOpenedFile d × (reply.events ≡ length d.site)
  pub refused : reply.status ≢ 0
      → (kept.site ≡ Closed) × IsUnopenedFor File reply.status × (reply.events ≡ 0)
  pub text : kept.text ≡ []
  pub none : TellsNone reply
  pub length_is : reply.length ≡ 0

-- ---- events taken

-- the bytes' events were taken into libjumbetai's site in memory
abbrev pub TookInMemory : List ℕ → Held → Held → Reply → Type 0
TookInMemory bytes held kept reply =
    (s : List EventValue) × (t : List EventValue)
    × (held.site ≡ Memory s) × (kept.site ≡ Memory t)
    × TookBytes bytes s t reply × (reply.listed ≡ 0) × (reply.events ≡ length t)

-- they were kept in libjumbetai's table, and counted or owed
abbrev pub TookOverFiles : List ℕ → Held → Held → Reply → Type 0
TookOverFiles bytes held kept reply =
    (d : _) × (e : _) × (held.site ≡ File d) × (kept.site ≡ File e) × KeepsBytes file_state bytes d e reply

-- what `jumbetai_site_take` leaves and replies; the answer's text stays
pub record RoomTook (bytes : List ℕ) (held kept : Held) (reply : Reply) : Type 0 where
  pub took : TookInMemory bytes held kept reply
      ⊎ (TookOverFiles bytes held kept reply ⊎ (IsShut held kept × TellsShut kept reply))
  pub text : kept.text ≡ held.text
  pub length_is : reply.length ≡ length kept.text
  pub offers : kept.offers ≡ no_offers

-- ---- what is asked

-- libjumbetai's call by this number leaves and replies what the call of a site in memory does
pub record Answered (what : ℕ) (bytes : List ℕ) (from : ℕ) (held kept : Shown) (reply : Reply)
    : Type 0 where
  pub question : what < 8 → Asked what held kept reply
  pub summary : what ≡ 8 → Summed held kept reply
  pub delta : what ≡ 9 → Lacked bytes from held kept reply
  pub page : what ≡ 10 → Paged from held kept reply
  pub check : what ≡ 11 → Checked bytes held kept reply
  pub views : what ≡ 12 → Viewed held kept reply
  pub arrivals : what ≡ 13 → Arrived from held kept reply
  pub release : what ≡ 14 → Released held kept reply
  pub other : 14 < what → Asked what held kept reply

-- what `jumbetai_site_tell` leaves and replies
abbrev pub RoomTold : ℕ → List ℕ → ℕ → Held → Held → Reply → Type 0
RoomTold what bytes from held kept reply =
    Did (λ h k. Answered what bytes from h k reply) (TellsShut kept reply) held kept

-- what `jumbetai_site_part` leaves and replies
abbrev pub RoomPartLacked : List ℕ → ℕ → ℕ → ℕ → Held → Held → Reply → Type 0
RoomPartLacked bytes from most size held kept reply =
    Did (λ h k. PartLacked bytes from most size h k reply) (TellsShut kept reply) held kept

-- what `jumbetai_site_get` leaves and replies
abbrev pub RoomFound : List ℕ → List ℕ → Held → Held → Reply → Type 0
RoomFound source id held kept reply =
    Did (λ h k. Found source id h k reply) (TellsShut kept reply) held kept

-- what `jumbetai_site_split` leaves and replies
abbrev pub RoomSplit : List ℕ → ℕ → Held → Held → Reply → Type 0
RoomSplit bytes count held kept reply =
    Did (λ h k. Split bytes count h k reply) (TellsShut kept reply) held kept

-- libjumbetai's site and text stay
abbrev pub Stays : Shown → Shown → Type 0
Stays held kept = (kept.site ≡ held.site) × (kept.text ≡ held.text)

-- what `jumbetai_site_name` leaves and tells
abbrev pub RoomNamed : Held → Held → Name → Name → Type 0
RoomNamed held kept was name =
    Did (λ h k. Stays h k × TellsName (set_of h.site) was name)
    ((name.status ≡ 11) × (name.bytes ≡ was.bytes)) held kept

-- what `jumbetai_site_compare` leaves and tells
abbrev pub RoomCompared : List ℕ → Held → Held → Lag → Type 0
RoomCompared bytes held kept lag =
    Did (λ h k. Stays h k × TellsLag bytes (set_of h.site) lag)
    (lag ≡ record { status = 11; lacking = 0; ahead = 0; blocks = 0 }) held kept

-- what `jumbetai_site_copy` leaves: the site as it was, and one in memory with the same events, come
-- in the same order, and no text; or, where there are events, memory ran out, and that one has none
abbrev pub RoomCopied : Held → Held → Held → Type 0
RoomCopied held kept copy = (kept ≡ held) × (copy.text ≡ [])
    × ((c : List EventValue) × (copy.site ≡ Memory c)
    × ((c ≡ events_of held.site) ⊎ ((c ≡ []) × (events_of held.site ≢ []))))

-- ---- bodies of one transaction

-- what `jumbetai_site_offer` leaves and replies: the body stands behind the others, or memory ran
-- out, and all are let go. Nothing is taken.
pub record Offered (bytes : List ℕ) (held kept : Held) (reply : Reply) : Type 0 where
  pub site : kept.site ≡ held.site
  pub text : kept.text ≡ held.text
  pub did : ((head : Head) × (batch : List EventValue) × ReadsBody bytes head batch
      × IsOfferedBehind head batch held.offers kept.offers
      × (reply.status ≡ head.status) × (reply.listed ≡ head.count))
      ⊎ ((kept.offers ≡ no_offers) × IsWant reply.status × (reply.listed ≡ 0))
  pub fresh : reply.fresh ≡ 0
  pub repeated : reply.repeated ≡ 0

-- libjumbetai's table kept the bodies that were offered, and the reply tells what that came to
abbrev pub KeptOverFiles : Held → Held → Reply → Type 0
KeptOverFiles held kept reply =
    (d : _) × (e : _) × (held.site ≡ File d) × (kept.site ≡ File e)
    × KeepsOffers file_state held.offers kept.offers d e × (reply.status ≡ kept.offers.status)
    × (reply.events ≡ length e.site)

-- what `jumbetai_site_keep` leaves and replies; a site without files is left as it is
pub record KeptOffers (held kept : Held) (reply : Reply) : Type 0 where
  pub did : KeptOverFiles held kept reply ⊎ ((kept.site ≡ held.site) × TellsShut kept reply)
  pub files : (d : _) → held.site ≡ File d → KeptOverFiles held kept reply
  pub text : kept.text ≡ held.text

-- what `jumbetai_site_answer` leaves and replies
abbrev pub HasAnswer : ℕ → Held → Held → Reply → Type 0
HasAnswer place held kept reply = (kept ≡ held) × AnswerAt held.offers place reply

-- ---- pieces read, and a site closed

-- what `jumbetai_site_read` leaves and copies
abbrev pub HasReadPiece : ℕ → Held → Held → Piece → Piece → Type 0
HasReadPiece number held kept was piece =
    (kept ≡ held) × IsPieceRead number held.text was piece

-- what `jumbetai_site_close` does to the files of an open site: they are closed, and what a crash
-- could leave of them is all that is left
abbrev pub LetsGo : HeldSite → Type 0
LetsGo (File d) = Closes d.table.conn
LetsGo (Memory s) = ⊤
LetsGo Closed = ⊤
