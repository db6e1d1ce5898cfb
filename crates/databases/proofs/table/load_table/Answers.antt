use Rattle.std.proofs.lemmas.Result.{IfErr-weaker, IfOk-weaker}
use Rattle.sqlite.proofs.StateLemmas.{survives_weaker}
use Rattle.databases.proofs.HeldLemmas.{no_inbox, opened_events, opened_holds, opened_may_hold, opened_rows}
use Rattle.databases.proofs.table.load_table.Goals as goal

pub returns : goal.returns
returns g c =
    record {
      events = IfOk-weaker c.open_and_load.result _ _ (λ l opens clean held holds. opened_events _ _ _ l.events (opens clean) held holds) c.open_and_load.ensures.opens;
      found = IfOk-weaker c.open_and_load.result _ _ (λ l opens clean. (opens clean).is) c.open_and_load.ensures.opens;
      held = IfOk-weaker c.open_and_load.result _ _ (λ l opens clean. opened_holds _ _ _ l.events (opens clean)) c.open_and_load.ensures.opens;
      rows = c.open_and_load.ensures.rows;
      stays_open = IfOk-weaker c.open_and_load.result _ _ (λ l opens clean. (opens clean).stays_open) c.open_and_load.ensures.opens;
      settled = IfOk-weaker c.open_and_load.result _ _ (λ l opens clean. (opens clean).settled) c.open_and_load.ensures.opens;
      back = IfErr-weaker c.open_and_load.result _ _ (λ n rejects. rejects.same) c.open_and_load.ensures.rejects;
      crash = IfOk-weaker c.open_and_load.result _ _ (λ l crash. survives_weaker _ _ _ _ (λ clean trees may. opened_may_hold _ trees may) crash) c.open_and_load.ensures.crash;
      crash_refused = IfErr-weaker c.open_and_load.result _ _ (λ n crash. survives_weaker _ _ _ _ (λ clean trees may. opened_may_hold _ trees may) crash) c.open_and_load.ensures.crash_refused;
      beside = IfOk-weaker c.open_and_load.result _ _ (λ l opens clean. opened_rows _ _ _ l.events (opens clean)) c.open_and_load.ensures.opens;
      foreign = IfErr-weaker c.open_and_load.result _ _ (λ n rejects. no_inbox _ _ n.fault rejects) c.open_and_load.ensures.rejects;
      both = c.open_and_load.ensures.both;
    }
