-- What a call leaves in the room that an outbox over a file lies in, and what it replies.
use Rattle.std.specs.Prelude.{◌≡◌, ◌≢◌, ◌==◌, ◌≤◌, ◌⊎◌, IsUtf8, ℕ, List, [], codes, drop, length, take, if◌then◌else◌, IsTrue, Err, MatchOption, MatchResult, ⊤, None, Ok, Option, Result, Some}
use Rattle.sqlite_disk.specs.declared.Disk as disk
use Rattle.sqlite_store.specs.declared.store.FileStore.{FileStore}
use Rattle.sqlite.specs.Files.{file_state, over_files}
use Rattle.sqlite.specs.Held.{Held, state}
use Rattle.sqlite.specs.State.{HasCleanDisk, State}
use Rattle.sqlite_trees.specs.declared.store.Store.{Ghosts}
use Rattle.attributes.specs.Event.{EventValue}
use Rattle.attributes.specs.Time.{time_day}
use Rattle.outbox.specs.Call.{CommandCall, CommandEffect, IsServiceReading, IsSettled, LeavesAsBefore, ShowsAfter}
use Rattle.outbox.specs.Opening.{IsOpeningRefused, OpensService}
use Rattle.outbox.specs.Order.{Accepted, IsCommand, IsOrder}
use Rattle.outbox.specs.Shown.{CountsOrders, IsAllowed, Shown}
use Rattle.outbox.specs.declared.fault.OutboxFault.{OutboxFault}
use Rattle.outbox.specs.declared.fault.OutboxFault.TheVariants as outbox
use Rattle.outbox.specs.declared.status.Status.{Status}
use Rattle.outbox.specs.declared.status.Status.TheVariants.{Placed, Shipped, Cancelled}
use Rattle.durable_site.specs.Files.{Closes, IsOver, IsUnopened}
use Rattle.durable_site.specs.declared.fault.OpenFault.{OpenFault}
use Rattle.library_calls.specs.Calls.{IsPageLine, IsWant, piece_of}
use Rattle.library_calls.specs.Files.{open_status, untold}
use Rattle.library_calls.specs.declared.calls.Piece.{Piece}
use Rattle.library_calls.specs.declared.outbox_calls.OutboxReply.{OutboxReply}
use Rattle.library_calls.specs.declared.outbox_calls.Unserved.{Unserved}
use Rattle.library_calls.specs.declared.outbox_held.OutboxHeld.{OutboxHeld}
pub use Rattle.event_json.specs.BatchText.{event_line}

-- the status of libjumbetai's call that a refusal of a service is
abbrev pub outbox_status : OutboxFault → ℕ
outbox_status outbox.OutOfMemory = 1
outbox_status outbox.Store = 18
outbox_status outbox.Foreign = 19
outbox_status outbox.OrderExists = 21
outbox_status outbox.NoOrder = 22
outbox_status outbox.WrongState = 23
outbox_status outbox.Full = 24

-- ---- commands named

-- the number of a command that libjumbetai's caller gives
abbrev pub action_number : Status → ℕ
action_number Placed = 1
action_number Shipped = 2
action_number Cancelled = 3

-- a command that libjumbetai's caller may give has this number
abbrev pub IsAction : ℕ → Type 0
IsAction action = (status : Status) × (action ≡ action_number status)

-- the bytes of libjumbetai's caller are a time of RFC 3339 of at most 64 bytes
pub record IsTimeInBytes (bytes : List ℕ) : Type 0 where
  pub text : IsUtf8 bytes
  pub time : time_day bytes ≢ None
  pub short : length bytes ≤ 64

-- the arguments of libjumbetai's call name this command
pub record NamesCommand (action order : ℕ) (time : List ℕ) (c : Accepted) : Type 0 where
  pub action_is : action ≡ action_number c.status
  pub order_is : c.order ≡ order
  pub at_is : c.at ≡ time
  pub command : IsCommand c

-- the arguments of libjumbetai's call name no command, and the status says which of them is the
-- first that doesn't: the action, the order, the time
abbrev pub NamesNone : ℕ → ℕ → List ℕ → ℕ → Type 0
NamesNone action order time status = ((status ≡ 29) × (IsAction action → ⊥))
    ⊎ (IsAction action × (((status ≡ 26) × (IsOrder order → ⊥))
    ⊎ ((status ≡ 25) × IsOrder order × (IsTimeInBytes time → ⊥))))

-- memory for a copy of the time isn't there, and the call's arguments name a command
abbrev pub WantsTime : ℕ → ℕ → List ℕ → ℕ → Type 0
WantsTime action order time status = IsWant status
    × ((c : Accepted) × NamesCommand action order time c)

-- ---- what a service is opened with

-- the source of a service that libjumbetai makes
abbrev pub source_if_made : ℕ → List ℕ → List ℕ
source_if_made has_source source = if has_source == 0 then codes "/orders" else source

-- a service that libjumbetai is to make may have this source and this base
abbrev pub IsGiven : ℕ → List ℕ → ℕ → Type 0
IsGiven has_source source base = IsAllowed (source_if_made has_source source) base

-- libjumbetai's database has this service, or it was made there with what was given; where the
-- source was asked for, it has that
pub record FindsMeant {S : Type 0} (has_source : ℕ) (source : List ℕ) (base : ℕ) (old : State)
    (s : Shown S) (new : State) : Type 0 where
  pub opens : OpensService source base old s new
  pub meant : has_source ≢ 0 → s.source ≡ source

-- a source was asked for in libjumbetai's call, and the database's service has another
pub record FindsAnother {S : Type 0} (has_source : ℕ) (source : List ℕ) (base : ℕ) (old : State)
    (s : Shown S) (new : State) : Type 0 where
  pub opens : OpensService source base old s new
  pub is_given : has_source ≢ 0
  pub other : s.source ≢ source

-- the service of libjumbetai's database, or why there is none: none can be opened in it, or the one
-- that is there has another source. Then the connection comes back
abbrev pub FindsServiceOrWhy : {S : Type 0} → Ghosts S → ℕ → List ℕ → ℕ → State
    → Result (Shown S) (Unserved S) → Type 0
FindsServiceOrWhy g has_source source base old (Ok s) = FindsMeant has_source source base old s (state g s.conn)
FindsServiceOrWhy {S} g has_source source base old (Err u) =
    ((fault : OutboxFault) × (u.status ≡ outbox_status fault)
    × IsOpeningRefused source base old (state g u.conn) fault)
    ⊎ ((s : Shown S) × (u.status ≡ 28) × (s.conn ≡ u.conn)
    × FindsAnother has_source source base old s (state g s.conn))

module _ {S : Type 0} (g : Ghosts S) where
  -- the reply tells of this service; its orders while the disk gives back what was written
  pub record TellsService (s : Shown S) (reply : OutboxReply) : Type 0 where
    pub base : reply.base ≡ s.base
    pub last : reply.last ≡ s.last
    pub orders : HasCleanDisk (state g s.conn) → IsTrue (state g s.conn).is_open
        → CountsOrders (state g s.conn).now s.source s.base reply.orders

  -- ---- commands

  -- a service was given a command: accepted, its row is written and synced, and the text is the
  -- line of its event; refused, the service is as it was, and the text
  pub record Carries (c : Accepted) (was is : Shown S) (text kept : List ℕ) (status number : ℕ)
      : Type 0 where
    pub result : Result EventValue OutboxFault
    pub call : CommandCall c was is result
    pub effect : HasCleanDisk (state g is.conn)
        → CommandEffect c was (state g was.conn) (state g is.conn) result
    pub replies : MatchResult result
        (λ e. (status ≡ 0) × (number ≡ is.last) × (kept ≡ event_line e))
        (λ fault. (status ≡ outbox_status fault) × (number ≡ 0) × (kept ≡ text))

  -- the arguments name a command, which it was given; or they name none, and nothing was asked of
  -- it
  abbrev pub Commands : ℕ → ℕ → List ℕ → Shown S → Shown S → List ℕ → List ℕ → ℕ → ℕ → Type 0
  Commands action order time was is text kept status number =
      ((c : Accepted) × NamesCommand action order time c × Carries c was is text kept status number)
      ⊎ (NamesNone action order time status × (is ≡ was) × (kept ≡ text) × (number ≡ 0))

  -- ---- rows shown

  -- these are the next rows after a number, at most 100; a crash leaves what there is
  pub record IsNextRows (after : ℕ) (was is : Shown S) (events : List EventValue) : Type 0 where
    pub rows : ShowsAfter was.source was.base after 100 (state g was.conn).now events
    pub was_open : IsTrue (state g was.conn).is_open
    pub stays_open : IsTrue (state g is.conn).is_open
    pub settled : IsSettled (state g is.conn)

  -- a service was asked for them, and stays; the text is the line of their batch, or, at want of
  -- memory or a fault of the database, that of before
  pub record ShowsRows (after : ℕ) (was is : Shown S) (text kept : List ℕ) (status listed : ℕ)
      : Type 0 where
    pub stays : (is.source ≡ was.source) × (is.base ≡ was.base) × (is.last ≡ was.last)
    pub same : IsServiceReading (state g was.conn) (state g is.conn)
    pub crash : LeavesAsBefore (state g was.conn) (state g is.conn)
    pub shown : status ≡ 0 → (events : List EventValue) × IsPageLine events kept listed
        × (HasCleanDisk (state g is.conn) → IsNextRows after was is events)
    pub refused : status ≢ 0 → (IsWant status ⊎ (status ≡ 18)) × (kept ≡ text) × (listed ≡ 0)

module _ {D : Type 0} {g : disk.Ghosts D} where
  -- ---- opening

  -- the files have a service, or one was made in them with what was given; where a source was
  -- given, it has that
  pub record OpensOutbox (has_source : ℕ) (source : List ℕ) (base : ℕ) (s : Shown (FileStore D g))
      : Type 0 where
    pub given : IsGiven has_source source base
    pub first : Held (FileStore D g)
    pub over : IsOver untold first
    pub opens : OpensService (source_if_made has_source source) base (file_state first) s (file_state s.conn)
    pub meant : has_source ≢ 0 → s.source ≡ source

  -- a source was given, and the service that the files have has another: it was opened, which
  -- changes nothing of it, and the files were closed
  pub record IsAnother (has_source : ℕ) (source : List ℕ) (base : ℕ) (s : Shown (FileStore D g))
      : Type 0 where
    pub first : Held (FileStore D g)
    pub over : IsOver untold first
    pub opens : OpensService (source_if_made has_source source) base (file_state first) s (file_state s.conn)
    pub is_given : has_source ≢ 0
    pub other : s.source ≢ source
    pub closes : Closes s.conn

  -- the files have no service and none was made in them, for this fault: the database is as it was,
  -- and they were closed so
  pub record RefusesOutbox (source : List ℕ) (base : ℕ) (fault : OutboxFault)
      (last : Held (FileStore D g)) : Type 0 where
    pub first : Held (FileStore D g)
    pub over : IsOver untold first
    pub refused : IsOpeningRefused source base (file_state first) (file_state last) fault
    pub closes : Closes last

  -- there is a service, or the status says why not: want of memory; what was given isn't a source
  -- and a base, and the files weren't asked; they weren't opened, and are as they were; no service
  -- can be opened in it; the one that is there has another source
  abbrev pub Serves : ℕ → List ℕ → ℕ → Result (Shown (FileStore D g)) ℕ → Type 0
  Serves has_source source base (Ok s) = OpensOutbox has_source source base s
  Serves has_source source base (Err status) = IsWant status
      ⊎ (((status ≡ 27) × (IsGiven has_source source base → ⊥))
      ⊎ (IsGiven has_source source base
      × (((fault : OpenFault) × (status ≡ open_status fault) × IsUnopened D g untold fault)
      ⊎ (((fault : OutboxFault) × (last : Held (FileStore D g)) × (status ≡ outbox_status fault)
      × RefusesOutbox (source_if_made has_source source) base fault last)
      ⊎ ((s : Shown (FileStore D g)) × (status ≡ 28) × IsAnother has_source source base s)))))

  -- the room has this service, if any, and the reply tells of it
  abbrev pub OpensAs : ℕ → List ℕ → ℕ → Option (Shown (FileStore D g)) → OutboxReply → Type 0
  OpensAs has_source source base (Some s) reply = (reply.status ≡ 0)
      × Serves has_source source base (Ok s) × TellsService over_files s reply
  OpensAs has_source source base None reply = Serves has_source source base (Err reply.status)
      × (reply.base ≡ 0) × (reply.last ≡ 0) × (reply.orders ≡ 0)

-- no service is open in libjumbetai's room, and the reply says so; the text stays
pub record IsShut (held kept : OutboxHeld) (reply : OutboxReply) : Type 0 where
  pub was : held.service ≡ None
  pub is : kept.service ≡ None
  pub status : reply.status ≡ 11
  pub number : reply.number ≡ 0
  pub listed : reply.listed ≡ 0
  pub base : reply.base ≡ 0
  pub last : reply.last ≡ 0
  pub orders : reply.orders ≡ 0
  pub text : kept.text ≡ held.text

-- what `jumbetai_outbox_open` leaves and replies
pub record OpenedOutbox (has_source : ℕ) (source : List ℕ) (base : ℕ) (kept : OutboxHeld)
    (reply : OutboxReply) : Type 0 where
  pub opened : OpensAs has_source source base kept.service reply
  pub text : kept.text ≡ []
  pub number : reply.number ≡ 0
  pub listed : reply.listed ≡ 0
  pub length_is : reply.length ≡ 0

-- what `jumbetai_outbox_order` leaves and replies
pub record OrderedOutbox (action order : ℕ) (time : List ℕ) (held kept : OutboxHeld)
    (reply : OutboxReply) : Type 0 where
  pub did : ((was : _) × (is : _) × (held.service ≡ Some was) × (kept.service ≡ Some is)
      × Commands over_files action order time was is held.text kept.text reply.status
      reply.number × TellsService over_files is reply) ⊎ IsShut held kept reply
  pub listed : reply.listed ≡ 0
  pub length_is : reply.length ≡ length kept.text

-- what `jumbetai_outbox_rows` leaves and replies
pub record ShownOutbox (after : ℕ) (held kept : OutboxHeld) (reply : OutboxReply) : Type 0 where
  pub did : ((was : _) × (is : _) × (held.service ≡ Some was) × (kept.service ≡ Some is)
      × ShowsRows over_files after was is held.text kept.text reply.status reply.listed
      × TellsService over_files is reply) ⊎ IsShut held kept reply
  pub number : reply.number ≡ 0
  pub length_is : reply.length ≡ length kept.text

-- what `jumbetai_outbox_read` leaves and copies, as `jumbetai_site_read` does
abbrev pub HasReadOutbox : ℕ → OutboxHeld → OutboxHeld → Piece → Piece → Type 0
HasReadOutbox number held kept was piece = (kept ≡ held)
    × (piece.length ≡ length (piece_of number held.text))
    × (take piece.length piece.bytes ≡ piece_of number held.text)
    × (drop piece.length piece.bytes ≡ drop piece.length was.bytes)

-- what `jumbetai_outbox_close` does to the files of an open service, as `jumbetai_site_close` does
abbrev pub LetsGoOutbox : OutboxHeld → Type 0
LetsGoOutbox held = MatchOption held.service ⊤ (λ s. Closes s.conn)
