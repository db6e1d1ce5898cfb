use Rattle.std.proofs.Common.{◌∙◌, ap, arith, refl, subst, sym, Ok, Err}
use Rattle.sqlite.specs.Effect.{Database}
use Rattle.sqlite.specs.Held.{state}
use Rattle.sqlite.specs.State.{HasCleanDisk}
use Rattle.inbox_table.specs.Calls.{IsSettled, KeptTable, ReadEffect}
use Rattle.inbox_table.specs.Rows.{events_of_block}
use Rattle.inbox_table.proofs.TableLemmas.{read_done, read_refused}
use Rattle.inbox_table.proofs.table.Table.block.Goals as goal

pub returns-in-Err-clause-effect : goal.returns-in-Err-clause-effect
returns-in-Err-clause-effect g c clean =
    let old = state g.S.Store c.self.inside.conn in
    let new = state g.S.Store c.listed_in.new.conn in
    let was_clean : HasCleanDisk old = omega (arith, c.listed_in.ensures.survives.clean, clean) in
    subst (λ (k : KeptTable _). ReadEffect (events_of_block c.args.source.now c.args.k) k.rows (state g.S.Store k.conn) new (Err c.in-Err.fault)) c.self.view_is
    (read_refused _ old new c.self.inside.rows c.in-Err.fault (c.in-Err.ensures.foreign clean) (λ still. c.self.invariant was_clean (c.listed_in.ensures.same.was_open clean still)) (λ still. (c.listed_in.ensures.same.same clean still).0))

pub returns-clause-effect : goal.returns-clause-effect
returns-clause-effect g c clean =
    let old = state g.S.Store c.self.inside.conn in
    let new = state g.S.Store c.listed_in.new.conn in
    let was_clean : HasCleanDisk old = omega (arith, c.listed_in.ensures.survives.clean, clean) in
    let still = c.in-Ok.ensures.open clean in
    let settled : IsSettled new = λ still db leaves. g.met.S.Store.settled c.listed_in.new.conn.store db still leaves ∙ ap (λ (d : Database). d.trees) (sym (c.in-Ok.ensures.settled clean)) in
    subst (λ (k : KeptTable _). ReadEffect (events_of_block c.args.source.now c.args.k) k.rows (state g.S.Store k.conn) new (Ok c.in-Ok.found.events)) c.self.view_is
    (read_done (events_of_block c.args.source.now c.args.k) _ old new c.self.inside.rows _ _ (λ _. refl) (c.in-Ok.ensures.tells clean) (c.self.invariant was_clean (c.listed_in.ensures.same.was_open clean still)) (c.listed_in.ensures.same.same clean still).0 still settled)
