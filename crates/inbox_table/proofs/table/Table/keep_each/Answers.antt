use Rattle.std.proofs.Common.{◌+◌, IsTrue, Ok, Err, arith, subst, sym}
use Rattle.sqlite.specs.Held.{state}
use Rattle.sqlite.specs.State.{HasCleanDisk, Survives}
use Rattle.sqlite.proofs.StateLemmas.{survives_weaker}
use Rattle.inbox_table.specs.Calls.{KeepEachEffect, KeptTable, MayTake, Stands, joined}
use Rattle.inbox_table.proofs.ListsLemmas.{each_stands}
use Rattle.inbox_table.proofs.table.Table.keep_each.Goals as goal

pub returns-in-Ok-clause-crash : goal.returns-in-Ok-clause-crash
returns-in-Ok-clause-crash g c =
    let L = joined c.args.lists.now in
    let old = state g.S.Store c.self.inside.conn in
    let last = state g.S.Store c.keep_lists.new.conn in
    subst (λ (k : KeptTable _). Survives (state g.S.Store k.conn) last (λ trees. IsTrue (state g.S.Store k.conn).is_open → MayTake L (state g.S.Store k.conn).now trees)) c.self.view_is
    (survives_weaker old last _ (λ trees. IsTrue old.is_open → MayTake L old.now trees) (λ clean db may still. may still (c.self.invariant (omega (arith, c.keep_lists.ensures.crash.clean, clean)) still)) c.keep_lists.ensures.crash)

pub returns-in-Err-clause-crash : goal.returns-in-Err-clause-crash
returns-in-Err-clause-crash g c =
    let L = joined c.args.lists.now in
    let old = state g.S.Store c.self.inside.conn in
    let last = state g.S.Store c.keep_lists.new.conn in
    subst (λ (k : KeptTable _). Survives (state g.S.Store k.conn) last (λ trees. IsTrue (state g.S.Store k.conn).is_open → MayTake L (state g.S.Store k.conn).now trees)) c.self.view_is
    (survives_weaker old last _ (λ trees. IsTrue old.is_open → MayTake L old.now trees) (λ clean db may still. may still (c.self.invariant (omega (arith, c.keep_lists.ensures.crash.clean, clean)) still)) c.keep_lists.ensures.crash)

pub returns-in-Ok-clause-effect : goal.returns-in-Ok-clause-effect
returns-in-Ok-clause-effect g c clean =
    let was_clean : HasCleanDisk (state g.S.Store c.self.inside.conn) = omega (arith, c.keep_lists.ensures.crash.clean, clean) in
    subst (λ (k : KeptTable _). KeepEachEffect c.args.lists.now (state g.S.Store k.conn) (state g.S.Store c.keep_lists.new.conn) (Ok c.in-Ok.each)) c.self.view_is
    (c.in-Ok.ensures.effect clean (λ still. c.self.invariant was_clean still))

pub returns-in-Err-clause-effect : goal.returns-in-Err-clause-effect
returns-in-Err-clause-effect g c clean =
    let was_clean : HasCleanDisk (state g.S.Store c.self.inside.conn) = omega (arith, c.keep_lists.ensures.crash.clean, clean) in
    subst (λ (k : KeptTable _). KeepEachEffect c.args.lists.now (state g.S.Store k.conn) (state g.S.Store c.keep_lists.new.conn) (Err c.in-Err.fault)) c.self.view_is
    (c.in-Err.ensures.effect clean (λ still. c.self.invariant was_clean still))

pub invariant_of-self : goal.invariant_of-self
invariant_of-self g c clean still =
    let old = state g.S.Store c.self.inside.conn in
    let new = state g.S.Store c.keep_lists.new.conn in
    let was_clean : HasCleanDisk old = omega (arith, c.keep_lists.ensures.crash.clean, clean) in
    let effect = c.in-Ok.ensures.effect clean (λ still. c.self.invariant was_clean still) in
    subst (λ n. Stands new.now (c.self.inside.rows + n)) (sym c.total.ensures)
    (each_stands c.args.lists.now old.now new.now c.self.inside.rows c.in-Ok.each (c.self.invariant was_clean (effect.was_open still)) effect.takes effect.fresh)
