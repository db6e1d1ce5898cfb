use Rattle.std.proofs.Common.{[], ◌∷◌, arith, rules}
use Rattle.sqlite.specs.Held.{state}
use Rattle.sqlite.specs.State.{HasCleanDisk, KeepsCommit}
use Rattle.sqlite.proofs.InsideLemmas.{keeps_then}
use Rattle.database_layout.specs.Layout.{inbox_tree, schema_in}
use Rattle.database_layout.specs.Making.{Makes, both_in, upgraded}
use Rattle.inbox_table.specs.steps.Turns.{IsKeeping}
use Rattle.inbox_table.proofs.KeepLemmas.{kept_commit}
use Rattle.inbox_table.proofs.UpgradeLemmas.{made_commit, refilled}
use Rattle.inbox_table.proofs.upgrade.refill.Goals as goal

pub returns-clause-refills : goal.returns-clause-refills
returns-clause-refills g c clean inside =
    let l = c.args.layout in
    let a = state g.S.Store c.args.tx.now.conn.now in
    let b = state g.S.Store c.make_inbox.new.tx.conn.now in
    let m = state g.S.Store c.put_all.new.tx.conn.now in
    let d = state g.S.Store c.drop_inbox.new.tx.conn.now in
    let clean2 : HasCleanDisk m = omega (arith, c.drop_inbox.ensures.survives.clean, clean) in
    let clean1 : HasCleanDisk b = omega (arith, c.put_all.ensures.survives.clean, clean2) in
    let clean0 : HasCleanDisk a = omega (arith, c.make_inbox.ensures.survives.clean, clean1) in
    let made : Makes (schema_in l) (both_in l) (inbox_tree (upgraded l) ∷ []) a b = c.in_ok-make_inbox.ensures.beside clean1 inside l c.requires.has (c.requires.schema clean0) in
    let keeping : IsKeeping 0 c.args.events.now [] b m c.in_ok-put_all.field-0 = c.in_ok-put_all.ensures.keeping clean2 made.changed.mode in
    refilled l c.args.events.now a b m d c.in_ok-put_all.field-0 c.requires.has (c.requires.schema clean0) made keeping (c.in_ok-drop_inbox.ensures.dropped clean keeping.mode l c.requires.has)

pub returns-in_err-put_all-clause-failed : goal.returns-in_err-put_all-clause-failed
returns-in_err-put_all-clause-failed g c clean inside =
    let l = c.args.layout in
    let a = state g.S.Store c.args.tx.now.conn.now in
    let b = state g.S.Store c.make_inbox.new.tx.conn.now in
    let m = state g.S.Store c.put_all.new.tx.conn.now in
    let clean1 : HasCleanDisk b = omega (arith, c.put_all.ensures.survives.clean, clean) in
    let clean0 : HasCleanDisk a = omega (arith, c.make_inbox.ensures.survives.clean, clean1) in
    let made : Makes (schema_in l) (both_in l) (inbox_tree (upgraded l) ∷ []) a b = c.in_ok-make_inbox.ensures.beside clean1 inside l c.requires.has (c.requires.schema clean0) in
    let kept : KeepsCommit a m = keeps_then a b m (made_commit made) (c.in_err-put_all.ensures.failed clean made.changed.mode) in
    search rules

pub returns-in_err-drop_inbox-clause-failed : goal.returns-in_err-drop_inbox-clause-failed
returns-in_err-drop_inbox-clause-failed g c clean inside =
    let l = c.args.layout in
    let a = state g.S.Store c.args.tx.now.conn.now in
    let b = state g.S.Store c.make_inbox.new.tx.conn.now in
    let m = state g.S.Store c.put_all.new.tx.conn.now in
    let d = state g.S.Store c.drop_inbox.new.tx.conn.now in
    let clean2 : HasCleanDisk m = omega (arith, c.drop_inbox.ensures.survives.clean, clean) in
    let clean1 : HasCleanDisk b = omega (arith, c.put_all.ensures.survives.clean, clean2) in
    let clean0 : HasCleanDisk a = omega (arith, c.make_inbox.ensures.survives.clean, clean1) in
    let made : Makes (schema_in l) (both_in l) (inbox_tree (upgraded l) ∷ []) a b = c.in_ok-make_inbox.ensures.beside clean1 inside l c.requires.has (c.requires.schema clean0) in
    let keeping : IsKeeping 0 c.args.events.now [] b m c.in_ok-put_all.field-0 = c.in_ok-put_all.ensures.keeping clean2 made.changed.mode in
    let kept : KeepsCommit a d = keeps_then a m d (keeps_then a b m (made_commit made) (kept_commit keeping)) (c.in_err-drop_inbox.ensures.failed clean keeping.mode) in
    search rules
