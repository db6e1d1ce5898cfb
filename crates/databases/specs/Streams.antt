-- A stream of lines into a database.
use Rattle.std.specs.Prelude.{◌≡◌, ◌⊎◌, ℕ, List, Option, Result, IfErr, IfOk, IsTrue, OnOk, true}
use Rattle.std.specs.Io.KnownBytes.{Keeps}
use Rattle.sqlite.specs.Effect.{Database}
use Rattle.sqlite.specs.State.{State, HasCleanDisk}
use Rattle.sqlite_trees.specs.Tree.{Trees}
use Rattle.attributes.specs.Event.{EventValue}
use Rattle.inbox_table.specs.Calls.{IsAsItWas, IsSettled, has_both}
use Rattle.inbox_table.specs.Rows.{IsInbox}
use Rattle.inbox_table.specs.declared.fault.TableFault.{TableFault}
use Rattle.inbox_table.specs.declared.fault.TableFault.TheVariants.{Foreign}
use Rattle.line_intake.specs.Acknowledged.{TellsPart, TellsSome}
use Rattle.line_intake.specs.Follow.{AreKept, IsFollowed, StreamPlace, StopsStream, Turn}
use Rattle.line_intake.specs.declared.step.FollowFault.{FollowFault}
use Rattle.databases.specs.Fault.{of_follow, of_table}
use Rattle.databases.specs.Held.{Holds, IsNoInbox, KeepsRows, MayHold}
use Rattle.databases.specs.declared.stream.StreamFault.{StreamFault}
use Rattle.databases.specs.declared.stream.StreamFault.TheVariants as stream

-- the database has what the old one held, and behind it the events of turns, of each line so many
-- new
abbrev pub HoldsTurns : List Turn → Database → Database → Type 0
HoldsTurns turns old new = (held : List EventValue) → Holds old held
    → (events : List EventValue) × IsInbox new events × AreKept held turns events

-- a database's inbox couldn't be had: nothing was read or written, and the database is as it was
pub record StaysUnread (left left' out out' : Option (List ℕ)) (old new : State) (f : StreamFault)
    : Type 0 where
  pub why : TableFault
  pub is : f ≡ stream.Database (of_table why)
  pub unread : Keeps left left'
  pub unwritten : Keeps out out'
  pub same : IsAsItWas old new
  -- `Foreign` comes only of tables that aren't those of an inbox, and always where both versions
  -- are there
  pub foreign : why ≡ Foreign → HasCleanDisk new → IsNoInbox old.now
  pub both : has_both old.now.schema ≡ true → why ≡ Foreign

-- what a crash leaves of a database before the first turn: what it could leave before the stream,
-- or a database that holds what was held
abbrev pub LeavesUnturned : State → Trees → Type 0
LeavesUnturned old trees = old.may_leave trees ⊎ MayHold old.now trees

-- the stream stopped for this fault: what the turns before it brought is in behind what the
-- database held, and a crash takes none of it
pub record StopsInto (start : StreamPlace) (out : Option (List ℕ)) (old new : State) (f : StreamFault)
    : Type 0 where
  pub why : FollowFault
  pub is : f ≡ of_follow why
  pub stops : StopsStream start (LeavesUnturned old) out new why
      (λ turns mid. HasCleanDisk new → HoldsTurns turns old.now mid)

-- what of the input is acknowledged where the stream into a database ends for this fault
abbrev pub AcknowledgesUntil : StreamFault → Option (List ℕ) → Option (List ℕ) → Option (List ℕ)
    → Type 0
AcknowledgesUntil (stream.Input why) old out out' = TellsSome old out out'
AcknowledgesUntil (stream.Database why) old out out' = TellsSome old out out'
AcknowledgesUntil stream.Unwritten old out out' = TellsPart old out out'

-- lines of an input went into a database, from one state to the other, and were acknowledged: to
-- the input's end where nothing refused them, else to where the stream stopped
pub record FollowsOver (input out out' : Option (List ℕ)) (outcome : Result ℕ StreamFault)
    (old new : State) : Type 0 where
  -- this was left of the input when the stream began, which is all of it
  pub left : Option (List ℕ)
  pub begun : Keeps input left
  pub followed : IfOk outcome (λ faults. IsFollowed
      (record { lines = 0; left = left; out = out }) out' faults
      (λ turns. HasCleanDisk new → HoldsTurns turns old.now new.now))
  -- a crash leaves them
  pub settled : HasCleanDisk new → OnOk outcome (IsSettled new)
  -- it stopped before, and this is what the turns before it and the last lines came to
  pub stops : IfErr outcome (λ f. ((left' : Option (List ℕ))
      × StaysUnread left left' out out' old new f)
      ⊎ StopsInto (record { lines = 0; left = left; out = out }) out' old new f)
  -- whatever came of it, a service has its rows, and no fault of the disk is forgotten
  pub beside : HasCleanDisk new → IsTrue new.is_open → KeepsRows old.now new.now
  pub clean : HasCleanDisk new → HasCleanDisk old
