use Rattle.std.proofs.Common.{◌∙◌, ap, arith, subst, sym, IsTrue}
use Rattle.sqlite.specs.Effect.{Database}
use Rattle.sqlite.specs.Held.{state}
use Rattle.sqlite.specs.State.{HasCleanDisk}
use Rattle.inbox_table.specs.Calls.{KeptTable, ReadEffect}
use Rattle.inbox_table.specs.Rows.{events_named}
use Rattle.inbox_table.proofs.SameLemmas.{on_weaker}
use Rattle.inbox_table.proofs.TableLemmas.{read_found}
use Rattle.inbox_table.proofs.table.Table.find.Goals as goal

pub returns-clause-effect : goal.returns-clause-effect
returns-clause-effect g c clean =
    let old = state g.S.Store c.self.inside.conn in
    let new = state g.S.Store c.find_named.new.conn in
    let was_clean : HasCleanDisk old = omega (arith, c.find_named.ensures.survives.clean, clean) in
    let settled = on_weaker c.find_named.result _ _ (λ is still db leaves. g.met.S.Store.settled c.find_named.new.conn.store db still leaves ∙ ap (λ (d : Database). d.trees) (sym is)) (c.find_named.ensures.settled clean) in
    subst (λ (k : KeptTable _). ReadEffect (events_named c.args.source.now c.args.id.now) k.rows (state g.S.Store k.conn) new c.find_named.result) c.self.view_is
    (read_found _ old new c.self.inside.rows c.find_named.result (c.find_named.ensures.tells clean) (c.find_named.ensures.foreign clean) (λ still. c.self.invariant was_clean (c.find_named.ensures.same.was_open clean still)) (λ still. (c.find_named.ensures.same.same clean still).0) (c.find_named.ensures.open clean)
    settled)

pub returns-clause-was_open : goal.returns-clause-was_open
returns-clause-was_open g c clean still =
    subst (λ (k : KeptTable _). IsTrue (state g.S.Store k.conn).is_open) c.self.view_is (c.find_named.ensures.same.was_open clean still)
