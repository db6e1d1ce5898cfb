use Rattle.std.proofs.Common.{◌≡◌, true, false, inl, inr, refl, rules, subst, sym}
use Rattle.sqlite.specs.Held.{state}
use Rattle.sqlite.proofs.StateLemmas.{survives_weaker}
use Rattle.database_layout.specs.Layout.{has_inbox}
use Rattle.inbox_table.specs.Opening.{Opens}
use Rattle.inbox_table.proofs.OpenLemmas.{adopted_opens, adopted_rejects, made_rejects, not_both}
use Rattle.inbox_table.proofs.table.Table.open_and_load.Goals as goal

pub returns-in-Err-clause-rejects : goal.returns-in-Err-clause-rejects
returns-in-Err-clause-rejects g c =
    let none : has_inbox (state g.S.Store c.args.conn).now.schema ≡ false = search rules in
    made_rejects (state g.S.Store c.args.conn) (state g.S.Store c.in-Err.refused.conn) none c.in-Err.refused.fault c.in-Err.ensures.same c.in-Err.ensures.foreign

pub returns-in-Err-clause-both : goal.returns-in-Err-clause-both
returns-in-Err-clause-both g c both =
    let none : has_inbox (state g.S.Store c.args.conn).now.schema ≡ false = search rules in
    absurd (not_both (state g.S.Store c.args.conn).now.schema none both)

pub returns-in-Err-clause-crash_refused : goal.returns-in-Err-clause-crash_refused
returns-in-Err-clause-crash_refused g c =
    let none : has_inbox (state g.S.Store c.args.conn).now.schema ≡ false = search rules in
    survives_weaker _ _ _ _ (λ clean trees may. inl (none, may)) c.in-Err.ensures.crash_refused

pub returns-in-Ok-found_in-clause-opens : goal.returns-in-Ok-found_in-clause-opens
returns-in-Ok-found_in-clause-opens g c clean =
    let has : has_inbox (state g.S.Store c.args.conn).now.schema ≡ true = search rules in
    let it = c.in-Ok-found_in.ensures.adopts clean in
    subst (Opens (g.W.Watch.told c.args.watch.now) (state g.S.Store c.args.conn) (state g.S.Store c.found_in.new.conn)) (sym (it.kept refl))
    (adopted_opens (state g.S.Store c.args.conn) (state g.S.Store c.found_in.new.conn) has (g.W.Watch.told c.args.watch.now) it.events it.adopts (c.in-Ok-found_in.ensures.told clean))

pub returns-in-Ok-found_in-clause-crash : goal.returns-in-Ok-found_in-clause-crash
returns-in-Ok-found_in-clause-crash g c =
    let has : has_inbox (state g.S.Store c.args.conn).now.schema ≡ true = search rules in
    survives_weaker _ _ _ _ (λ clean trees may. inr (has, may)) c.found_in.ensures.crash

pub returns-in-Err-found_in-clause-crash_refused : goal.returns-in-Err-found_in-clause-crash_refused
returns-in-Err-found_in-clause-crash_refused g c =
    let has : has_inbox (state g.S.Store c.args.conn).now.schema ≡ true = search rules in
    survives_weaker _ _ _ _ (λ clean trees may. inr (has, may)) c.found_in.ensures.crash

pub returns-in-Err-found_in-clause-rejects : goal.returns-in-Err-found_in-clause-rejects
returns-in-Err-found_in-clause-rejects g c =
    let has : has_inbox (state g.S.Store c.args.conn).now.schema ≡ true = search rules in
    adopted_rejects (state g.S.Store c.args.conn) (state g.S.Store c.found_in.new.conn) has c.in-Err-found_in.fault c.in-Err-found_in.ensures.rejects
