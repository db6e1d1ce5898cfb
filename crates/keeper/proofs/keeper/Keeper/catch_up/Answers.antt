use Rattle.std.proofs.Common.{Err, Ok, arith, sym, ap, ◌∙◌, subst, drop, IsTrue}
use Rattle.sqlite.specs.Held.{state}
use Rattle.sqlite.specs.State.{HasCleanDisk, Survives}
use Rattle.inbox_table.specs.Calls.{KeptTable}
use Rattle.keeper.proofs.PageLemmas.{caught_up, keeps_refused, keeps_taken, rest_crash}
use Rattle.keeper.proofs.keeper.Keeper.catch_up.Goals as goal
use Rattle.keeper.specs.Keep.{Keeps, KeepsUp, MayKeepAll}

pub returns-clause-all : goal.returns-clause-all
returns-clause-all g c clean =
    let A = c.args.site.now in
    let table = c.self.inside.table in
    let old = state g.S.Store table.conn in
    let new = state g.S.Store c.keep_watched.new.self.conn in
    let rest = drop c.rest_of-rest.result.n c.rest_of-rest.result.site.now in
    let first : KeepsUp old table.rows A = subst (λ (k : KeptTable _). KeepsUp (state g.S.Store k.conn) k.rows A) (sym c.self.view_is) c.requires in
    let was_clean : (HasCleanDisk new → HasCleanDisk old) = λ clean. omega (arith, c.in-Ok.ensures.crash.clean, clean) in
    caught_up old new table.rows c.keep_watched.new.self.rows c.in-Ok.fresh A rest (c.rest_of-rest.ensures.rest ∙ ap (λ n. drop n A) c.rows-before.ensures.rows) c.rest_of-rest.ensures.once first was_clean
    (λ clean. (c.in-Ok.ensures.effect clean).was_open) (λ clean. (c.in-Ok.ensures.effect clean).stays_open) (λ clean. (c.in-Ok.ensures.effect clean).takes) (λ clean. (c.in-Ok.ensures.effect clean).fresh) c.in-Ok.ensures.call.counted clean

pub returns-clause-keeps : goal.returns-clause-keeps
returns-clause-keeps g c =
    subst (λ (k : KeptTable _). Keeps (λ conn. state g.S.Store conn) k c.keep_watched.new.self (Ok tt)) c.self.view_is
    (keeps_taken (λ conn. state g.S.Store conn) c.self.inside.table c.keep_watched.new.self _ c.in-Ok.ensures.crash tt c.in-Ok.fresh c.in-Ok.ensures.effect)

pub returns-in-Err-clause-keeps : goal.returns-in-Err-clause-keeps
returns-in-Err-clause-keeps g c =
    subst (λ (k : KeptTable _). Keeps (λ conn. state g.S.Store conn) k c.keep_watched.new.self (Err c.of.result)) c.self.view_is
    (keeps_refused (λ conn. state g.S.Store conn) c.self.inside.table c.keep_watched.new.self _ c.in-Err.ensures.crash c.in-Err.fault c.of.result (c.of.ensures ∙ c.from.ensures) c.in-Err.ensures.call c.in-Err.ensures.effect)

pub returns-clause-crash : goal.returns-clause-crash
returns-clause-crash g c =
    let A = c.args.site.now in
    let table = c.self.inside.table in
    let old = state g.S.Store table.conn in
    let new = state g.S.Store c.keep_watched.new.self.conn in
    let rest = drop c.rest_of-rest.result.n c.rest_of-rest.result.site.now in
    let first : KeepsUp old table.rows A = subst (λ (k : KeptTable _). KeepsUp (state g.S.Store k.conn) k.rows A) (sym c.self.view_is) c.requires in
    subst (λ (k : KeptTable _). Survives (state g.S.Store k.conn) new (λ trees. IsTrue (state g.S.Store k.conn).is_open → MayKeepAll A (state g.S.Store k.conn).now trees)) c.self.view_is
    (rest_crash old new table.rows A rest (c.rest_of-rest.ensures.rest ∙ ap (λ n. drop n A) c.rows-before.ensures.rows) c.rest_of-rest.ensures.once first c.in-Ok.ensures.crash)

pub returns-in-Err-clause-crash : goal.returns-in-Err-clause-crash
returns-in-Err-clause-crash g c =
    let A = c.args.site.now in
    let table = c.self.inside.table in
    let old = state g.S.Store table.conn in
    let new = state g.S.Store c.keep_watched.new.self.conn in
    let rest = drop c.rest_of-rest.result.n c.rest_of-rest.result.site.now in
    let first : KeepsUp old table.rows A = subst (λ (k : KeptTable _). KeepsUp (state g.S.Store k.conn) k.rows A) (sym c.self.view_is) c.requires in
    subst (λ (k : KeptTable _). Survives (state g.S.Store k.conn) new (λ trees. IsTrue (state g.S.Store k.conn).is_open → MayKeepAll A (state g.S.Store k.conn).now trees)) c.self.view_is
    (rest_crash old new table.rows A rest (c.rest_of-rest.ensures.rest ∙ ap (λ n. drop n A) c.rows-before.ensures.rows) c.rest_of-rest.ensures.once first c.in-Err.ensures.crash)
