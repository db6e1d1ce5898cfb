-- What a call leaves of the state of a database.
use Rattle.std.specs.Prelude.{◌≡◌, IsTrue, OnErr, OnOk, Result}
use Rattle.sqlite_trees.specs.Tree.{Trees}
use Rattle.sqlite.specs.State.{State, HasCleanDisk, KeepsCommit}

-- a database is as it was: while the disk is honest and it is open, it shows what it showed
abbrev pub IsAsItWas : State → State → Type 0
IsAsItWas old new = HasCleanDisk new → IsTrue new.is_open → new.now ≡ old.now

-- after a call on the database a crash leaves the last commit alone
abbrev pub IsSettled : State → Type 0
IsSettled s = IsTrue s.is_open → (db : Trees) → s.may_leave db → db ≡ s.now.trees

-- a call on the database that is refused within a transaction lets the last commit stay
abbrev pub KeepsCommitIfRefused : {A E : Type 0} → State → State → Result A E → Type 0
KeepsCommitIfRefused old new result = HasCleanDisk new → IsTrue old.in_transaction
    → OnErr result (KeepsCommit old new)

-- where a call was done, what the database shows is committed
abbrev pub ShowsCommitIfDone : {A E : Type 0} → State → Result A E → Type 0
ShowsCommitIfDone new result = HasCleanDisk new → OnOk result (new.now ≡ new.committed)

-- a database of ours that is open behind a call was open before
abbrev pub WasOpen : State → State → Type 0
WasOpen old new = HasCleanDisk new → IsTrue new.is_open → IsTrue old.is_open
