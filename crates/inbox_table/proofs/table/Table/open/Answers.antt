use Rattle.std.proofs.Common.{◌≡◌, [], true, false, inl, inr, refl, rules}
use Rattle.std.proofs.lemmas.Result.{IfErr-weaker, IfOk-weaker}
use Rattle.sqlite.specs.Held.{state}
use Rattle.sqlite.proofs.StateLemmas.{survives_weaker}
use Rattle.database_layout.specs.Layout.{has_inbox}
use Rattle.inbox_table.proofs.OpenLemmas.{adopted_opens, adopted_rejects, both_err, both_ok, made_opens, made_rejects, not_both}
use Rattle.inbox_table.proofs.table.Table.open.Goals as goal

pub returns-then-not-has_inbox-clause-opens : goal.returns-then-not-has_inbox-clause-opens
returns-then-not-has_inbox-clause-opens g c =
    let none : has_inbox (state g.S.Store c.args.conn).now.schema ≡ false = search rules in
    IfOk-weaker c.create.result _ _
    (λ t it clean. ([], it.1, made_opens (state g.S.Store c.args.conn) (state g.S.Store t.conn) none (g.W.Watch.told c.args.watch.now) [] refl (it.0 clean)))
    (both_ok c.create.result _ _ c.create.ensures.made c.create.ensures.rows)

pub returns-then-not-has_inbox-clause-rejects : goal.returns-then-not-has_inbox-clause-rejects
returns-then-not-has_inbox-clause-rejects g c =
    let none : has_inbox (state g.S.Store c.args.conn).now.schema ≡ false = search rules in
    IfErr-weaker c.create.result _ _
    (λ n it. made_rejects (state g.S.Store c.args.conn) (state g.S.Store n.conn) none n.fault it.0 it.1)
    (both_err c.create.result _ _ c.create.ensures.same c.create.ensures.foreign)

pub returns-then-not-has_inbox-clause-both : goal.returns-then-not-has_inbox-clause-both
returns-then-not-has_inbox-clause-both g c both =
    let none : has_inbox (state g.S.Store c.args.conn).now.schema ≡ false = search rules in
    absurd (not_both (state g.S.Store c.args.conn).now.schema none both)

pub returns-then-not-has_inbox-clause-crash : goal.returns-then-not-has_inbox-clause-crash
returns-then-not-has_inbox-clause-crash g c =
    let none : has_inbox (state g.S.Store c.args.conn).now.schema ≡ false = search rules in
    IfOk-weaker c.create.result _ _ (λ t crash. survives_weaker _ _ _ _ (λ clean trees may. inl (none, may)) crash) c.create.ensures.crash

pub returns-then-not-has_inbox-clause-crash_refused : goal.returns-then-not-has_inbox-clause-crash_refused
returns-then-not-has_inbox-clause-crash_refused g c =
    let none : has_inbox (state g.S.Store c.args.conn).now.schema ≡ false = search rules in
    IfErr-weaker c.create.result _ _ (λ n crash. survives_weaker _ _ _ _ (λ clean trees may. inl (none, may)) crash) c.create.ensures.crash_refused

pub returns-in-Ok-clause-opens : goal.returns-in-Ok-clause-opens
returns-in-Ok-clause-opens g c clean =
    let has : has_inbox (state g.S.Store c.args.conn).now.schema ≡ true = search rules in
    let it = c.in-Ok.ensures.adopts clean in
    (it.events, it.count, adopted_opens (state g.S.Store c.args.conn) (state g.S.Store c.found_in.new.conn) has (g.W.Watch.told c.args.watch.now) it.events it.adopts (c.in-Ok.ensures.told clean))

pub returns-in-Ok-clause-crash : goal.returns-in-Ok-clause-crash
returns-in-Ok-clause-crash g c =
    let has : has_inbox (state g.S.Store c.args.conn).now.schema ≡ true = search rules in
    survives_weaker _ _ _ _ (λ clean trees may. inr (has, may)) c.found_in.ensures.crash

pub returns-in-Err-clause-crash_refused : goal.returns-in-Err-clause-crash_refused
returns-in-Err-clause-crash_refused g c =
    let has : has_inbox (state g.S.Store c.args.conn).now.schema ≡ true = search rules in
    survives_weaker _ _ _ _ (λ clean trees may. inr (has, may)) c.found_in.ensures.crash

pub returns-in-Err-clause-rejects : goal.returns-in-Err-clause-rejects
returns-in-Err-clause-rejects g c =
    let has : has_inbox (state g.S.Store c.args.conn).now.schema ≡ true = search rules in
    adopted_rejects (state g.S.Store c.args.conn) (state g.S.Store c.found_in.new.conn) has c.in-Err.fault c.in-Err.ensures.rejects
