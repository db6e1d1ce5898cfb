-- What a call leaves in the room that a numberer over a file lies in, and what it replies.
use Rattle.std.specs.Prelude.{◌≡◌, ◌⊎◌, ℕ, List, [], length, ⊤, IsTrue, Err, MatchOption, MatchResult, None, Ok, Option, Result, Some, drop, take}
use Rattle.sqlite_disk.specs.declared.Disk as disk
use Rattle.sqlite_store.specs.declared.store.FileStore.{FileStore}
use Rattle.sqlite.specs.Files.{file_state, over_files}
use Rattle.sqlite.specs.Held.{Held, state}
use Rattle.sqlite.specs.State.{HasCleanDisk, Survives}
use Rattle.sqlite_trees.specs.declared.store.Store.{Ghosts}
use Rattle.attributes.specs.Event.{EventValue}
use Rattle.event_json.specs.Reading.{Reads, Refuses}
use Rattle.event_json.specs.declared.fault.ReadFault.{ReadFault}
use Rattle.inbox_table.specs.Opening.{MayOpen, Opens}
use Rattle.inbox_table.specs.Rows.{IsAnyInbox}
use Rattle.numbers.specs.Refusal.{refusal_from}
use Rattle.numbers.specs.declared.fault.NumberFault.{NumberFault}
use Rattle.number_table.specs.Calls.{LeavesNumbers, MayNumber, NoneLeaves, NumberEffect, RejectsNumbers, StandsNumbered}
use Rattle.number_table.specs.Fault.{of_numbers}
use Rattle.number_table.specs.declared.fault.NumbererFault.{NumbererFault}
use Rattle.number_table.specs.declared.fault.NumbererFault.TheVariants as fault
use Rattle.number_table.specs.declared.numberer.Numberer.{Numberer}
use Rattle.durable_site.specs.Files.{Closes, IsOver, IsUnopened}
use Rattle.durable_site.specs.declared.fault.OpenFault.{OpenFault}
use Rattle.library_calls.specs.Calls.{IsPageLine, IsWant, piece_of}
use Rattle.library_calls.specs.Files.{open_status, untold}
use Rattle.library_calls.specs.declared.calls.Answered.{Answered}
use Rattle.library_calls.specs.declared.calls.Piece.{Piece}
use Rattle.library_calls.specs.declared.calls.Reply.{Reply}
use Rattle.library_calls.specs.declared.number_calls.Unnumbered.{Unnumbered}
use Rattle.library_calls.specs.declared.numbers_held.NumbersHeld.{NumbersHeld}

-- the status of libjumbetai's call that a refusal of a numberer is
abbrev pub number_status : NumbererFault → ℕ
number_status fault.OutOfMemory = 1
number_status (fault.HasSequence index) = 30
number_status (fault.TooLarge index) = 31
number_status (fault.Full index) = 24
number_status fault.Store = 18
number_status fault.Foreign = 19

-- the index of the event that a numberer refuses, from 0; else 0
abbrev pub index_at : NumbererFault → ℕ
index_at (fault.HasSequence index) = index
index_at (fault.TooLarge index) = index
index_at (fault.Full index) = index
index_at fault.OutOfMemory = 0
index_at fault.Store = 0
index_at fault.Foreign = 0

-- why libjumbetai's numberer answers no text: the status of a refusal, and at which event
abbrev pub IsNumbersRefusal : NumbererFault → Unnumbered → Type 0
IsNumbersRefusal fault why = (why.status ≡ number_status fault) × (why.index ≡ index_at fault)

-- memory ran out for libjumbetai's text, which is no event's fault
abbrev pub WantsText : Unnumbered → Type 0
WantsText why = IsWant why.status × (why.index ≡ 0)

-- the bytes of libjumbetai's caller spell no events, or memory ran out
abbrev pub IsNoEvents : List ℕ → ℕ → Type 0
IsNoEvents bytes status = IsWant status ⊎ ((status ≡ 2) × ((why : ReadFault) × Refuses bytes why))

-- ---- events numbered

module _ {S : Type 0} (g : Ghosts S) where
  -- a numberer was given events; the answer is the line of what it answered, or why it didn't. Where
  -- memory runs out for the line they are numbered, and given again they have the same numbers
  pub record Numbers (events : List EventValue) (was is : Numberer S)
      (made : Result Answered Unnumbered) : Type 0 where
    pub result : Result (List EventValue) NumbererFault
    pub first : (why : NumberFault) → refusal_from 0 events ≡ Some why
        → result ≡ Err (of_numbers why)
    pub effect : NumberEffect was.base events (state g was.table.conn) (state g is.table.conn)
        was.counted is.counted result
    pub leaves : HasCleanDisk (state g is.table.conn)
        → LeavesNumbers (state g was.table.conn) (state g is.table.conn) result
    pub base : is.base ≡ was.base
    pub crash : Survives (state g was.table.conn) (state g is.table.conn)
        (λ trees. IsTrue (state g was.table.conn).is_open
        → MayNumber was.base events was.counted (state g was.table.conn) trees)
    pub told : MatchResult result
        (λ answers. MatchResult made (λ m. IsPageLine answers m.text m.listed) WantsText)
        (λ fault. MatchResult made (λ _. ⊥) (IsNumbersRefusal fault))

  -- the bytes spell events, which it was given; or they spell none, and nothing was asked of it
  abbrev pub NumbersBytes : List ℕ → Numberer S → Numberer S → Result Answered Unnumbered → Type 0
  NumbersBytes bytes was is made =
      ((events : List EventValue) × Reads bytes events × Numbers events was is made)
      ⊎ ((why : Unnumbered) × (made ≡ Err why) × IsNoEvents bytes why.status × (why.index ≡ 0)
      × (is ≡ was))

-- ---- opening

module _ (D : Type 0) (g : disk.Ghosts D) where
  -- a connection was opened over the files, and no numberer with this base was found or made there:
  -- the database, where it is open, is as it was, and its files were closed so
  pub record RefusesNumbers (base status : ℕ) : Type 0 where
    pub first : Held (FileStore D g)
    pub last : Held (FileStore D g)
    pub over : IsOver untold first
    pub why : NumbererFault
    pub is : status ≡ number_status why
    pub rejects : RejectsNumbers (file_state first) (file_state last) why
    -- `Foreign` comes only of a table that no numberer with this base leaves
    pub foreign : why ≡ fault.Foreign → HasCleanDisk (file_state last) → (rows : List EventValue)
        → IsAnyInbox (file_state first).now rows → NoneLeaves base rows
    -- a crash leaves it so, or with the table that was to be made
    pub crash : Survives (file_state first) (file_state last) (MayOpen (file_state first).now)
    pub closes : Closes last

module _ {D : Type 0} {g : disk.Ghosts D} where
  -- a numberer with this base was opened over the files: what it numbered is in its table, or there
  -- was none
  pub record OpensNumbers (base : ℕ) (n : Numberer (FileStore D g)) : Type 0 where
    pub first : Held (FileStore D g)
    pub over : IsOver untold first
    pub base_is : n.base ≡ base
    pub opens : HasCleanDisk (file_state n.table.conn) → (events rows : List EventValue)
        × Opens (λ _ _. ⊤) (file_state first) (file_state n.table.conn) rows
        × StandsNumbered base events rows (file_state n.table.conn) n.counted
    -- no fault of the disk is forgotten, and a crash leaves it as it was, or with the table that was
    -- to be made
    pub crash : Survives (file_state first) (file_state n.table.conn)
        (MayOpen (file_state first).now)

  -- the files have a numberer; or they weren't opened, or have none, and are as they were
  abbrev pub ServesNumbers : ℕ → Result (Numberer (FileStore D g)) ℕ → Type 0
  ServesNumbers base (Ok n) = OpensNumbers base n
  ServesNumbers base (Err status) =
      ((why : OpenFault) × (status ≡ open_status why) × IsUnopened D g untold why)
      ⊎ RefusesNumbers D g base status

  -- the room has this numberer, if any, and the reply tells how many events it numbered
  abbrev pub OpensAsNumbers : ℕ → Option (Numberer (FileStore D g)) → Reply → Type 0
  OpensAsNumbers base (Some n) reply = (reply.status ≡ 0) × ServesNumbers base (Ok n)
      × (reply.events ≡ n.table.rows)
  OpensAsNumbers base None reply = ServesNumbers base (Err reply.status) × (reply.events ≡ 0)

-- what `jumbetai_numbers_open` leaves and replies
pub record OpenedNumbers (base : ℕ) (kept : NumbersHeld) (reply : Reply) : Type 0 where
  pub opened : OpensAsNumbers base kept.numberer reply
  pub text : kept.text ≡ []
  pub listed : reply.listed ≡ 0
  pub length_is : reply.length ≡ 0

-- the text that libjumbetai's numberer made lies there, or that of before, and the reply says which,
-- and then at which event it was refused
abbrev pub KeepsMade : Result Answered Unnumbered → List ℕ → List ℕ → Reply → Type 0
KeepsMade made text kept reply = MatchResult made
    (λ m. (kept ≡ m.text) × (reply.status ≡ 0) × (reply.listed ≡ m.listed))
    (λ why. (kept ≡ text) × (reply.status ≡ why.status) × (reply.listed ≡ why.index))

-- no numberer is open in libjumbetai's room, and the reply says so; the text stays
pub record IsShut (held kept : NumbersHeld) (reply : Reply) : Type 0 where
  pub was : held.numberer ≡ None
  pub is : kept.numberer ≡ None
  pub status : reply.status ≡ 11
  pub listed : reply.listed ≡ 0
  pub events : reply.events ≡ 0
  pub text : kept.text ≡ held.text

-- what `jumbetai_numbers_number` leaves and replies
pub record Numbered (bytes : List ℕ) (held kept : NumbersHeld) (reply : Reply) : Type 0 where
  pub did : ((was : _) × (is : _) × (held.numberer ≡ Some was) × (kept.numberer ≡ Some is)
      × ((made : Result Answered Unnumbered) × NumbersBytes over_files bytes was is made
      × KeepsMade made held.text kept.text reply) × (reply.events ≡ is.table.rows))
      ⊎ IsShut held kept reply
  pub length_is : reply.length ≡ length kept.text

-- what `jumbetai_numbers_read` leaves and copies, as `jumbetai_site_read` does
abbrev pub HasReadNumbers : ℕ → NumbersHeld → NumbersHeld → Piece → Piece → Type 0
HasReadNumbers number held kept was piece = (kept ≡ held)
    × (piece.length ≡ length (piece_of number held.text))
    × (take piece.length piece.bytes ≡ piece_of number held.text)
    × (drop piece.length piece.bytes ≡ drop piece.length was.bytes)

-- what `jumbetai_numbers_close` does to the files of an open numberer, as `jumbetai_site_close` does
abbrev pub LetsGoNumbers : NumbersHeld → Type 0
LetsGoNumbers held = MatchOption held.numberer ⊤ (λ n. Closes n.table.conn)
