use Rattle.std.proofs.Common.{IsTrue, Ok, Err, arith, subst}
use Rattle.sqlite.specs.Held.{state}
use Rattle.sqlite.specs.State.{HasCleanDisk, Survives}
use Rattle.sqlite.proofs.StateLemmas.{survives_weaker}
use Rattle.inbox_table.specs.Calls.{KeepEffect, KeptTable, MayTake}
use Rattle.inbox_table.proofs.table.Table.keep_watched.Goals as goal

pub returns-in-Ok-clause-crash : goal.returns-in-Ok-clause-crash
returns-in-Ok-clause-crash g c =
    let L = g.E.Listed.listed c.args.events.now in
    let old = state g.S.Store c.self.inside.conn in
    let last = state g.S.Store c.keep.new.conn in
    subst (λ (k : KeptTable _). Survives (state g.S.Store k.conn) last (λ trees. IsTrue (state g.S.Store k.conn).is_open → MayTake L (state g.S.Store k.conn).now trees)) c.self.view_is
    (survives_weaker old last _ (λ trees. IsTrue old.is_open → MayTake L old.now trees) (λ clean db may still. may still (c.self.invariant (omega (arith, c.keep.ensures.crash.clean, clean)) still)) c.keep.ensures.crash)

pub returns-in-Err-clause-crash : goal.returns-in-Err-clause-crash
returns-in-Err-clause-crash g c =
    let L = g.E.Listed.listed c.args.events.now in
    let old = state g.S.Store c.self.inside.conn in
    let last = state g.S.Store c.keep.new.conn in
    subst (λ (k : KeptTable _). Survives (state g.S.Store k.conn) last (λ trees. IsTrue (state g.S.Store k.conn).is_open → MayTake L (state g.S.Store k.conn).now trees)) c.self.view_is
    (survives_weaker old last _ (λ trees. IsTrue old.is_open → MayTake L old.now trees) (λ clean db may still. may still (c.self.invariant (omega (arith, c.keep.ensures.crash.clean, clean)) still)) c.keep.ensures.crash)

pub returns-in-Ok-clause-effect : goal.returns-in-Ok-clause-effect
returns-in-Ok-clause-effect g c clean =
    let L = g.E.Listed.listed c.args.events.now in
    let was_clean : HasCleanDisk (state g.S.Store c.self.inside.conn) = omega (arith, c.keep.ensures.crash.clean, clean) in
    subst (λ (k : KeptTable _). KeepEffect L (state g.S.Store k.conn) (state g.S.Store c.keep.new.conn) (Ok c.in-Ok.fresh)) c.self.view_is
    (c.in-Ok.ensures.effect clean (λ still. c.self.invariant was_clean still))

pub returns-in-Err-clause-effect : goal.returns-in-Err-clause-effect
returns-in-Err-clause-effect g c clean =
    let L = g.E.Listed.listed c.args.events.now in
    let was_clean : HasCleanDisk (state g.S.Store c.self.inside.conn) = omega (arith, c.keep.ensures.crash.clean, clean) in
    subst (λ (k : KeptTable _). KeepEffect L (state g.S.Store k.conn) (state g.S.Store c.keep.new.conn) (Err c.in-Err.fault)) c.self.view_is
    (c.in-Err.ensures.effect clean (λ still. c.self.invariant was_clean still))
