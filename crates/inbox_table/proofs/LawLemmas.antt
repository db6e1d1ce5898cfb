-- What a table is once its file is opened again.
use Rattle.std.proofs.Common.{inl, inr, sym, subst}
use Rattle.sqlite.specs.Effect.{Database}
use Rattle.inbox.specs.KeyOrder.{key_cmp}
use Rattle.inbox.specs.Ordered.{append_new}
use Rattle.database_layout.specs.Law.{TreesTellTables}
use Rattle.inbox_table.specs.Calls.{IsMade}
use Rattle.inbox_table.specs.Law.{StopsLeaveAList, StopsLeaveNoEvents, StopsLeaveOneVersion}
use Rattle.inbox_table.specs.Rows.{IsInbox}

pub list_again : TreesTellTables → StopsLeaveAList
list_again tell L held old again sound back box (inl before) =
    inl (subst (λ (d : Database). IsInbox d held) (sym (tell old again sound back before)) box)
list_again tell L held old again sound back box (inr after) =
    inr (subst (λ (d : Database). IsInbox d (append_new key_cmp held L)) (sym (tell after.db again after.sound back after.are)) (after.takes held box))

pub table_again : TreesTellTables → StopsLeaveNoEvents
table_again tell old again sound back (inl before) = inl (tell old again sound back before)
table_again tell old again sound back (inr after) =
    inr (subst (λ (d : Database). IsMade old d) (sym (tell after.db again after.sound back after.are)) after.made)

pub version_again : TreesTellTables → StopsLeaveOneVersion
version_again tell old again sound back (inl before) = inl (tell old again sound back before)
version_again tell old again sound back (inr after) =
    inr (after.events, after.was, subst (λ (d : Database). IsInbox d after.events) (sym (tell after.db again after.sound back after.are)) after.is)
