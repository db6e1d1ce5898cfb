-- A stream of lines that are kept and acknowledged, turn by turn.
use Rattle.std.specs.Prelude.{◌≡◌, ◌⊎◌, ℕ, List, [], ◌∷◌, length, Option, IsTrue, sum_by}
use Rattle.std.specs.Io.KnownBytes.{Appends, IsAtEnd, Keeps}
use Rattle.sqlite.specs.Effect.{Database}
use Rattle.sqlite.specs.State.{State, HasCleanDisk}
use Rattle.sqlite_trees.specs.Tree.{Trees}
use Rattle.attributes.specs.Event.{EventValue}
use Rattle.inbox.specs.KeyOrder.{key_cmp}
use Rattle.inbox.specs.Ordered.{append_new}
use Rattle.inbox_table.specs.Beside.{KeepsServiceBeside}
use Rattle.inbox_table.specs.Calls.{AreFreshEach, IsSettled, MayTake, Takes, joined}
use Rattle.inbox_table.specs.Fault.{IsOfStore}
use Rattle.inbox_table.specs.Rows.{IsInbox}
use Rattle.inbox_table.specs.declared.fault.TableFault.TheVariants.{OutOfMemory}
use Rattle.line_intake.specs.Answers.{answers_text}
use Rattle.line_intake.specs.Judged.{IsGathered, faults_in}
use Rattle.line_intake.specs.Written.{Wrote}
use Rattle.line_intake.specs.declared.answer.Told.{Told}
use Rattle.line_intake.specs.declared.step.FollowFault.{FollowFault}
use Rattle.line_intake.specs.declared.step.FollowFault.TheVariants as fault

-- the events of lines are in, each behind what was there, so many of each line were not there by
-- then, a crash leaves them, and a service beside the table has the rows that it had
pub record AreLinesKept (lists : List (List EventValue)) (each : List ℕ) (old : Database) (new : State)
    : Type 0 where
  pub takes : Takes (joined lists) old new.now
  pub fresh : (events : List EventValue) → IsInbox old events → AreFreshEach events lists each
  pub beside : KeepsServiceBeside old new.now
  pub stays_open : IsTrue new.is_open
  pub settled : IsSettled new

-- ---- one turn that stops

-- why a turn stops, and what it leaves. The table refused it, for want of memory or by another
-- refusal of the store: nothing was written, and the table is as it was, or, where memory for the
-- answers is wanted, has the events. Or a write failed: the events are in, and a front of the answers
-- was written
abbrev pub StopsTurn : FollowFault → List Told → List (List EventValue) → Database → State
    → Option (List ℕ) → Option (List ℕ) → Type 0
StopsTurn (fault.Input why) tells lists old new out out' = ⊥
StopsTurn (fault.Table why) tells lists old new out out' = Keeps out out' × IsOfStore why
    × (HasCleanDisk new → IsTrue new.is_open → (new.now ≡ old)
    ⊎ ((why ≡ OutOfMemory) × (each : List ℕ) × AreLinesKept lists each old new))
StopsTurn fault.Unwritten tells lists old new out out' = (each : List ℕ)
    × (length each ≡ length lists)
    × ((rest : List ℕ) × Wrote out out' (answers_text tells lists each) rest)
    × (HasCleanDisk new → AreLinesKept lists each old new)

-- ---- a stream, turn by turn

-- a turn of a `follow`: what is told of its lines, their events, how many of each line's were new
pub record Turn : Type 0 where
  pub tells : List Told
  pub lists : List (List EventValue)
  pub each : List ℕ

-- where a `follow` stands: how many lines it has had, what is left of its input, what was written
pub record StreamPlace : Type 0 where
  pub lines : ℕ
  pub left : Option (List ℕ)
  pub out : Option (List ℕ)

-- in a turn lines are taken from the input, and their acknowledgements written, one for each
pub record IsTurn (old : StreamPlace) (turn : Turn) (new : StreamPlace) : Type 0 where
  pub lines : IsGathered old.lines new.lines old.left new.left turn.tells turn.lists
  pub one_each : length turn.each ≡ length turn.lists
  pub answered : Appends old.out new.out (answers_text turn.tells turn.lists turn.each)

-- turns of a `follow`, one after the other
abbrev pub AreTurns : StreamPlace → List Turn → StreamPlace → Type 0
AreTurns old [] new = old ≡ new
AreTurns old (turn ∷ turns) new = (mid : StreamPlace) × IsTurn old turn mid × AreTurns mid turns new

-- turns of lines kept these events behind those that were held: of each line so many were new
abbrev pub AreKept : List EventValue → List Turn → List EventValue → Type 0
AreKept held [] events = events ≡ held
AreKept held (turn ∷ turns) events = AreFreshEach held turn.lists turn.each
    × AreKept (append_new key_cmp held (joined turn.lists)) turns events

-- the database has what it had, and behind it the events of turns of lines
abbrev pub KeepsTurns : List Turn → Database → Database → Type 0
KeepsTurns turns old new = (held : List EventValue) → IsInbox old held
    → (events : List EventValue) × IsInbox new events × AreKept held turns events

-- how many lines of the turns were at fault
abbrev pub faults_of : List Turn → ℕ
faults_of turns = sum_by (λ t. faults_in t.tells) turns

-- a `follow` came to the end of its input: each turn was answered, so many lines were at fault, and
-- the turns are kept as K says
pub record IsFollowed (start : StreamPlace) (out : Option (List ℕ)) (faults : ℕ) (K : List Turn → Type 0)
    : Type 0 where
  pub turns : List Turn
  pub last : StreamPlace
  pub are : AreTurns start turns last
  pub over : IsAtEnd last.left
  pub out_is : last.out ≡ out
  pub kept : K turns
  pub faulty : faults ≡ faults_of turns

-- what a crash leaves behind turns of lines that were answered and brought the database to this:
-- just that; where there were none, what was there before
abbrev pub LeavesTurns : List Turn → (Trees → Type 0) → Database → Trees → Type 0
LeavesTurns [] Was mid trees = Was trees
LeavesTurns (turn ∷ turns) Was mid trees = trees ≡ mid.trees

-- the input couldn't be read on: nothing more was written, the table is as it was then, and a crash
-- leaves it so; or lines were read behind those of the turns, and their turn stopped: then a crash
-- may leave their events too, all of them
abbrev pub StopsBehind : FollowFault → StreamPlace → (Trees → Type 0) → Database → State
    → Option (List ℕ) → Type 0
StopsBehind (fault.Input why) last Leaves mid new out = (mid ≡ new.now) × (last.out ≡ out)
    × (HasCleanDisk new → (trees : Trees) → new.may_leave trees → Leaves trees)
StopsBehind why last Leaves mid new out = (lines : ℕ) × (left : Option (List ℕ))
    × (tells : List Told) × (lists : List (List EventValue))
    × IsGathered last.lines lines last.left left tells lists
    × StopsTurn why tells lists mid new last.out out
    × (HasCleanDisk new → (trees : Trees) → new.may_leave trees
    → Leaves trees ⊎ MayTake (joined lists) mid trees)

-- the stream of lines stopped before that: each turn before was answered, the database that these
-- turns left is as K says, and what came of the last lines that were read is told by the fault.
-- Before the first turn a crash left what Was says
pub record StopsStream (start : StreamPlace) (Was : Trees → Type 0) (out : Option (List ℕ)) (new : State)
    (why : FollowFault) (K : List Turn → Database → Type 0) : Type 0 where
  pub turns : List Turn
  pub last : StreamPlace
  pub are : AreTurns start turns last
  pub mid : Database
  pub kept : K turns mid
  pub stop : StopsBehind why last (LeavesTurns turns Was mid) mid new out
