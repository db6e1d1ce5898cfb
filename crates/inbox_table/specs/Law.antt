-- What holds of tables, whatever was done.
use Rattle.std.specs.Prelude.{◌≡◌, ◌⊎◌, List}
use Rattle.sqlite.specs.Effect.{Database, IsDatabase}
use Rattle.attributes.specs.Event.{EventValue}
use Rattle.inbox.specs.KeyOrder.{key_cmp}
use Rattle.inbox.specs.Ordered.{append_new}
use Rattle.inbox_table.specs.Calls.{IsMade, MayMake, MayTake, MayUpgrade}
use Rattle.inbox_table.specs.Rows.{IsInbox, IsOldInbox}

-- events were given to an inbox's table that had others, and the call was stopped at any write:
-- what it left is what was there, or what a commit of all of them makes. The database that is
-- opened again has the list of before, or that list with those that were given
abbrev pub StopsLeaveAList : Type 0
StopsLeaveAList = (L held : List EventValue) (old again : Database) → IsDatabase old
    → IsDatabase again → IsInbox old held → (again.trees ≡ old.trees) ⊎ MayTake L old again.trees
    → IsInbox again held ⊎ IsInbox again (append_new key_cmp held L)

-- an inbox's table was made, and the call was stopped at any write: the database that is opened
-- again is that of before, or has the table without events beside what was there
abbrev pub StopsLeaveNoEvents : Type 0
StopsLeaveNoEvents = (old again : Database) → IsDatabase old → IsDatabase again
    → (again.trees ≡ old.trees) ⊎ MayMake old again.trees → (again ≡ old) ⊎ IsMade old again

-- an inbox's table of version 1 was taken over, the call stopped at any write: the database that is
-- opened again is that of before, or has in version 2 the list that it had in version 1
abbrev pub StopsLeaveOneVersion : Type 0
StopsLeaveOneVersion = (old again : Database) → IsDatabase old → IsDatabase again
    → (again.trees ≡ old.trees) ⊎ MayUpgrade old again.trees
    → (again ≡ old) ⊎ ((held : List EventValue) × IsOldInbox old held × IsInbox again held)
