use Rattle.std.proofs.Common.{◌∙◌, ap, arith, refl, subst, sym}
use Rattle.sqlite.specs.Effect.{Database}
use Rattle.sqlite.specs.Held.{state}
use Rattle.sqlite.specs.State.{HasCleanDisk}
use Rattle.sqlite.proofs.StateLemmas.{survives_then}
use Rattle.inbox_table.specs.Beside.{UpgradesTables}
use Rattle.inbox_table.specs.Calls.{IsSettled, MayUpgrade}
use Rattle.inbox_table.specs.Rows.{IsOldInbox}
use Rattle.inbox_table.specs.declared.version.Version.TheVariants.{One}
use Rattle.inbox_table.specs.steps.Upgrades.{Copies}
use Rattle.inbox_table.proofs.UpgradeLemmas.{adopts_old, as_it_was, read_all, rejects_rows, rejects_store}
use Rattle.inbox_table.proofs.upgrade.upgrade.Goals as goal

pub returns-in-Err-clause-rejects : goal.returns-in-Err-clause-rejects
returns-in-Err-clause-rejects g c =
    rejects_rows One c.args.layout (state g.S.Store c.args.conn.now) (state g.S.Store c.read.new.conn) c.in-Err.fault c.requires.has c.requires.schema c.read.ensures.same c.read.ensures.survives c.in-Err.ensures.foreign

pub returns-in-Err-copy-clause-rejects : goal.returns-in-Err-copy-clause-rejects
returns-in-Err-copy-clause-rejects g c =
    let old = state g.S.Store c.args.conn.now in
    let mid = state g.S.Store c.read.new.conn in
    let new = state g.S.Store c.copy.new.conn in
    rejects_store c.args.layout old new c.from.result c.requires.schema
    (as_it_was old mid new c.read.ensures.same (λ clean. ((let e : HasCleanDisk mid = omega (arith, c.copy.ensures.crash.clean, clean) in e), c.copy.ensures.was_open clean)) c.in-Err-copy.ensures.same) c.from.ensures

pub returns-in-Ok-copy-clause-adopts : goal.returns-in-Ok-copy-clause-adopts
returns-in-Ok-copy-clause-adopts g c clean =
    let old = state g.S.Store c.args.conn.now in
    let mid = state g.S.Store c.read.new.conn in
    let new = state g.S.Store c.copy.new.conn in
    let clean1 : HasCleanDisk mid = omega (arith, c.copy.ensures.crash.clean, clean) in
    let now = (c.read.ensures.same.same clean1 (c.in-Ok.ensures.open clean1)).0 in
    let tells = c.in-Ok.ensures.tells clean1 in
    let was : IsOldInbox mid.now c.in-Ok.found.events = subst (λ (d : Database). IsOldInbox d c.in-Ok.found.events) (sym now) (read_all old.now _ _ tells).0 in
    let it : Copies c.in-Ok.found.events mid.now new = c.in-Ok-copy.ensures.copies clean was in
    let settled : IsSettled new = λ still db leaves. g.met.S.Store.settled c.copy.new.conn.store db still leaves ∙ ap (λ (d : Database). d.trees) it.committed in
    let adopts = adopts_old c.args.layout old new c.in-Ok.found.events _ c.requires.has c.requires.schema tells it.table (subst (λ (d : Database). UpgradesTables d new.now) now it.beside) it.stays_open settled in
    record { events = c.in-Ok.found.events; adopts = adopts; count = c.len-rows.ensures; kept = λ _. refl }

pub returns-in-Ok-copy-clause-crash : goal.returns-in-Ok-copy-clause-crash
returns-in-Ok-copy-clause-crash g c =
    let old = state g.S.Store c.args.conn.now in
    let mid = state g.S.Store c.read.new.conn in
    let new = state g.S.Store c.copy.new.conn in
    survives_then old mid new _ _ (MayUpgrade old.now) (λ _ db none. absurd none)
    (λ clean db may.
    let clean1 : HasCleanDisk mid = omega (arith, c.copy.ensures.crash.clean, clean) in
    let now = (c.read.ensures.same.same clean1 (c.in-Ok.ensures.open clean1)).0 in
    let was = subst (λ (d : Database). IsOldInbox d c.in-Ok.found.events) (sym now) (read_all old.now _ _ (c.in-Ok.ensures.tells clean1)).0 in
    subst (λ (d : Database). MayUpgrade d db) now (may was))
    c.read.ensures.survives c.copy.ensures.crash

pub returns-in-Err-copy-clause-crash : goal.returns-in-Err-copy-clause-crash
returns-in-Err-copy-clause-crash g c =
    let old = state g.S.Store c.args.conn.now in
    let mid = state g.S.Store c.read.new.conn in
    let new = state g.S.Store c.copy.new.conn in
    survives_then old mid new _ _ (MayUpgrade old.now) (λ _ db none. absurd none)
    (λ clean db may.
    let clean1 : HasCleanDisk mid = omega (arith, c.copy.ensures.crash.clean, clean) in
    let now = (c.read.ensures.same.same clean1 (c.in-Ok.ensures.open clean1)).0 in
    let was = subst (λ (d : Database). IsOldInbox d c.in-Ok.found.events) (sym now) (read_all old.now _ _ (c.in-Ok.ensures.tells clean1)).0 in
    subst (λ (d : Database). MayUpgrade d db) now (may was))
    c.read.ensures.survives c.copy.ensures.crash

pub copy-requires-clause-schema : goal.copy-requires-clause-schema
copy-requires-clause-schema g c clean = ap (λ (d : Database). d.schema) (c.read.ensures.same.same clean (c.in-Ok.ensures.open clean)).0 ∙ c.requires.schema
