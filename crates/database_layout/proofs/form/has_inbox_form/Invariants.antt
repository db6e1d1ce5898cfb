use Rattle.std.proofs.Common.{drop}
use Rattle.database_layout.specs.Layout.{HasInboxForm}
use Rattle.database_layout.proofs.form.has_inbox_form.Given as goal

abbrev pub invariant-loop-table : goal.invariant-loop-table
invariant-loop-table l = (HasInboxForm l.schema.tables → HasInboxForm (drop l.table-index l.schema.tables)) × (HasInboxForm (drop l.table-index l.schema.tables) → HasInboxForm l.schema.tables)
