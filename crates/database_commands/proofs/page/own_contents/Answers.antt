use Rattle.std.proofs.Common.{◌∙◌, Err, Ok, ap, subst, sym}
use Rattle.sqlite.specs.Held.{state}
use Rattle.inbox_table.specs.Rows.{IsInbox}
use Rattle.databases.specs.Fault.{of_table}
use Rattle.databases.specs.Held.{Holds, IsUntold}
use Rattle.database_commands.specs.steps.Made.{ContentsEffect}
use Rattle.databases.proofs.BesideLemmas.{service_same}
use Rattle.databases.proofs.HeldLemmas.{inbox_holds, table_foreign, table_untold}
use Rattle.database_commands.proofs.page.own_contents.Goals as goal

pub returns-in-Ok : goal.returns-in-Ok
returns-in-Ok g c =
    let of = c.in-Ok.ensures in
    subst (λ h. ContentsEffect (Ok c.in-Ok.loaded.events) (state g.S.Store c.args.conn) (state g.S.Store h)) (sym c.into_connection-conn.ensures)
    (record {
      events = λ clean. of.events clean;
      list = λ clean still held holds. inbox_holds _ held (subst (IsInbox _) (of.events clean held holds) (of.found clean));
      beside = λ clean still. of.beside clean;
      stays_open = λ clean. of.stays_open clean;
      settled = λ clean. of.settled clean;
      crash = of.crash;
      foreign = tt;
      both = λ both. absurd (of.both both);
      fault = tt;
    })

pub returns-in-Err : goal.returns-in-Err
returns-in-Err g c =
    let of = c.in-Err.ensures in
    record {
      events = λ clean. tt;
      list = λ clean still held holds. subst (λ d. Holds d held) (sym (of.back clean still)) holds;
      beside = λ clean still. service_same _ _ (of.back clean still);
      stays_open = λ clean. tt;
      settled = λ clean. tt;
      crash = of.crash_refused;
      foreign = λ is clean. of.foreign (table_foreign c.in-Err.refused.fault (sym c.of_table.ensures ∙ is)) clean;
      both = λ both. ap Err (c.of_table.ensures ∙ ap of_table (of.both both));
      fault = subst IsUntold (sym c.of_table.ensures) (table_untold c.in-Err.refused.fault);
    }
