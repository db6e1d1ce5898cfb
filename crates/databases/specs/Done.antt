-- What a database comes to behind a call that was done, while the disk gave back what was written,
-- and what any call leaves of it.
use Rattle.std.specs.Prelude.{ℕ, List, Result, IfOk, IsTrue, OnOk}
use Rattle.sqlite.specs.State.{State, HasCleanDisk, Survives}
use Rattle.database_layout.specs.Beside.{KeepsBeside}
use Rattle.outbox.specs.Call.{IsSettled}
use Rattle.databases.specs.Held.{KeepsRows, MayHold, ShowsAllRows}

-- where a command was done, its database is open
abbrev pub OpenIfDone : {A E : Type 0} → State → Result A E → Type 0
OpenIfDone new outcome = HasCleanDisk new → OnOk outcome (IsTrue new.is_open)

-- where a command was done, a crash leaves just what the database shows
abbrev pub SettledIfDone : {A E : Type 0} → State → Result A E → Type 0
SettledIfDone new outcome = HasCleanDisk new → OnOk outcome (IsSettled new)

-- where a command was done, what lies beside the database's service is as it was
abbrev pub BesideIfDone : {A E : Type 0} → State → State → Result A E → Type 0
BesideIfDone old new outcome = HasCleanDisk new → OnOk outcome (KeepsBeside old.now new.now)

-- where a command was done, the text has all rows of the database's service behind a number
abbrev pub ShowsRowsIfDone : {E : Type 0} → ℕ → State → State → Result (List ℕ) E → Type 0
ShowsRowsIfDone after old new outcome = HasCleanDisk new → IfOk outcome (ShowsAllRows after old.now)

-- a service beside the database's inbox has the rows that it had
abbrev pub LeavesRows : State → State → Type 0
LeavesRows old new = HasCleanDisk new → IsTrue new.is_open → KeepsRows old.now new.now

-- a crash leaves what it could leave before, or a database that holds the same events
abbrev pub LeavesHeld : State → State → Type 0
LeavesHeld old new = Survives old new (MayHold old.now)
