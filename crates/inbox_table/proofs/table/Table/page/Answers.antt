use Rattle.std.proofs.Common.{◌≡◌, ◌≤◌, ◌<◌, ◌∙◌, ℕ, ap, arith, subst, sym, IsTrue}
use Rattle.sqlite.specs.Effect.{Database}
use Rattle.sqlite.specs.Held.{state}
use Rattle.sqlite.specs.State.{HasCleanDisk}
use Rattle.inbox_table.specs.Calls.{KeptTable, ReadEffect, Stands}
use Rattle.inbox_table.specs.Rows.{events_after}
use Rattle.inbox_table.proofs.SameLemmas.{on_weaker}
use Rattle.inbox_table.proofs.TableLemmas.{read_paged}
use Rattle.inbox_table.proofs.table.Table.page.Goals as goal

pub returns-clause-effect : goal.returns-clause-effect
returns-clause-effect g c clean =
    let old = state g.S.Store c.self.inside.conn in
    let new = state g.S.Store c.find_after.new.conn in
    let was_clean : HasCleanDisk old = omega (arith, c.find_after.ensures.survives.clean, clean) in
    let stands : IsTrue new.is_open → Stands old.now c.self.inside.rows = λ still. c.self.invariant was_clean (c.find_after.ensures.same.was_open clean still) in
    let most : ℕ = 9223372036854775807 in
    let low : c.self.inside.rows ≤ most = omega arith in
    let near : c.args.after ≤ most → c.min-place.result ≡ c.args.after = λ h. omega (arith, c.min-place.ensures, h) in
    let far : most < c.args.after → c.min-place.result ≡ most = λ h. omega (arith, c.min-place.ensures, h) in
    let few : c.args.count ≤ most → c.min-limit.result ≡ c.args.count = λ h. omega (arith, c.min-limit.ensures, h) in
    let many : most < c.args.count → c.min-limit.result ≡ most = λ h. omega (arith, c.min-limit.ensures, h) in
    let settled = on_weaker c.find_after.result _ _ (λ is still db leaves. g.met.S.Store.settled c.find_after.new.conn.store db still leaves ∙ ap (λ (d : Database). d.trees) (sym is)) (c.find_after.ensures.settled clean) in
    subst (λ (k : KeptTable _). ReadEffect (events_after c.args.after c.args.count) k.rows (state g.S.Store k.conn) new c.find_after.result) c.self.view_is
    (read_paged most c.args.after c.args.count c.min-place.result c.min-limit.result old new c.self.inside.rows c.find_after.result low near far few many (c.find_after.ensures.tells clean) (c.find_after.ensures.foreign clean) stands (λ still. (c.find_after.ensures.same.same clean still).0) (c.find_after.ensures.open clean)
    settled)

pub returns-clause-was_open : goal.returns-clause-was_open
returns-clause-was_open g c clean still =
    subst (λ (k : KeptTable _). IsTrue (state g.S.Store k.conn).is_open) c.self.view_is (c.find_after.ensures.same.was_open clean still)
