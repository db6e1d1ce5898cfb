use Rattle.std.proofs.Common.{◌≡◌, ◌∙◌, Err, ap, false, rules, subst, sym}
use Rattle.database_layout.specs.Layout.{has_inbox}
use Rattle.inbox_table.specs.declared.fault.TableFault.TheVariants as table
use Rattle.inbox_table.proofs.OpenLemmas.{not_both}
use Rattle.databases.specs.Fault.{of_table}
use Rattle.databases.specs.Held.{IsUntold}
use Rattle.databases.proofs.HeldLemmas.{table_foreign, table_untold}
use Rattle.database_commands.proofs.page.held.Goals as goal

pub returns-then-not-has_inbox-clause-both : goal.returns-then-not-has_inbox-clause-both
returns-then-not-has_inbox-clause-both g c both =
    let none : has_inbox c.args.conn.schema ≡ false = search rules in
    absurd (not_both c.args.conn.schema none both)

pub returns-in-Ok-clause-both : goal.returns-in-Ok-clause-both
returns-in-Ok-clause-both g c both = let bad = c.in-Ok.ensures.both both in cc

pub returns-in-Err-clause-foreign : goal.returns-in-Err-clause-foreign
returns-in-Err-clause-foreign g c is clean = c.in-Err.ensures.rejects.foreign clean (table_foreign c.in-Err.fault (sym c.of_table.ensures ∙ is))

pub returns-in-Err-clause-both : goal.returns-in-Err-clause-both
returns-in-Err-clause-both g c both =
    let is = c.in-Err.ensures.both both in
    let foreign : c.in-Err.fault ≡ table.Foreign = cc in
    ap Err (c.of_table.ensures ∙ ap of_table foreign)

pub returns-in-Err-clause-fault : goal.returns-in-Err-clause-fault
returns-in-Err-clause-fault g c = subst IsUntold (sym c.of_table.ensures) (table_untold c.in-Err.fault)
