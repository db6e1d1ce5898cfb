-- Of which tables an opening says that they are foreign.
use Rattle.std.proofs.Common.{◌≡◌, ℕ, List, [], Bool, true, false, refl, sym, subst, ◌∙◌}
use Rattle.sqlite.specs.State.{State, HasCleanDisk}
use Rattle.attributes.specs.Event.{EventValue}
use Rattle.database_layout.specs.Layout.{has_inbox}
use Rattle.inbox_table.specs.Opening.{Opens, RejectsOpening}
use Rattle.inbox_table.specs.Rows.{IsAnyInbox}
use Rattle.inbox_table.specs.declared.fault.TableFault.{TableFault}
use Rattle.inbox_table.specs.declared.fault.TableFault.TheVariants as table
use Rattle.number_table.specs.Calls.{NoneLeaves}
use Rattle.number_table.specs.Fault.{of_table}
use Rattle.number_table.specs.declared.fault.NumbererFault.{NumbererFault}
use Rattle.number_table.specs.declared.fault.NumbererFault.TheVariants.{Foreign}

table_is : (given : TableFault) → of_table given ≡ Foreign → given ≡ table.Foreign
table_is table.OutOfMemory h = absurd (cc)
table_is table.Store h = absurd (cc)
table_is table.Foreign h = refl

-- the table has no events at all
pub no_table : (old new : State) (given : TableFault) (f : NumbererFault) → RejectsOpening old new given → f ≡ of_table given → f ≡ Foreign → HasCleanDisk new → (rows : List EventValue) → IsAnyInbox old.now rows → ⊥
no_table old new given f rejects is foreign clean rows any =
    let its = table_is given (sym is ∙ foreign) in
    (rejects.rejects (rejects.foreign its)).foreign clean its rows any

-- those that it has are those that were read
pub none_leaves : (base : ℕ) (tells : ℕ → ℕ → Type 0) (old new : State) (events rows : List EventValue) → Opens tells old new events → NoneLeaves base events → IsAnyInbox old.now rows → NoneLeaves base rows
none_leaves base tells old new events rows opens none any = by (has_inbox old.now.schema) refl
  where
    nothing : NoneLeaves base [] → ⊥
    nothing n = n [] tt refl tt

    by : (b : Bool) → has_inbox old.now.schema ≡ b → NoneLeaves base rows
    by true h = subst (NoneLeaves base) ((opens.adopts h).only rows any) none
    by false h = absurd (nothing (subst (NoneLeaves base) (opens.none h) none))
