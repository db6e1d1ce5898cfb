use Rattle.std.proofs.Common.{◌∙◌, List, [], length, sym, subst, ap}
use Rattle.std.proofs.lemmas.Result.{IfOk-weaker}
use Rattle.sqlite.specs.Held.{state}
use Rattle.sqlite.specs.State.{HasCleanDisk}
use Rattle.inbox.specs.KeyOrder.{key_cmp}
use Rattle.inbox.specs.Ordered.{append_new}
use Rattle.attributes.specs.Event.{EventValue}
use Rattle.inbox_table.specs.Calls.{IsSettled, KeptTable}
use Rattle.inbox_table.specs.Rows.{IsInbox}
use Rattle.keeper.proofs.PageLemmas.{both_ok, loaded_first}
use Rattle.keeper.proofs.keeper.Keeper.begin.Goals as goal
use Rattle.keeper.specs.Keep.{KeepsUp}

pub returns-in-Ok-clause-exact : goal.returns-in-Ok-clause-exact
returns-in-Ok-clause-exact g c =
    IfOk-weaker c.of_loaded.result _ _
    (λ k f clean held box. let was = subst (λ (z : KeptTable _). HasCleanDisk (state g.S.Store z.conn)) f.0 clean in
    let read = c.in-Ok.ensures.effect was in
    let listed = subst (IsInbox _) (sym read.list.3) read.list.1 in
    f.1 ∙ (listed.once ∙ read.only held box))
    (both_ok c.of_loaded.result _ _ c.of_loaded.ensures.keeper c.of_loaded.ensures.site)

pub returns-in-Ok-clause-first : goal.returns-in-Ok-clause-first
returns-in-Ok-clause-first g c =
    let table = c.load.new.self in
    let events = c.in-Ok.events in
    let first : KeepsUp (state g.S.Store table.conn) table.rows (append_new key_cmp [] events) =
    λ clean is_open. let read = c.in-Ok.ensures.effect clean in
    loaded_first (state g.S.Store table.conn) table.rows events _ (subst (IsInbox _) (sym read.list.3) read.list.1) (read.same is_open)
    (c.in-Ok.ensures.rows ∙ (read.list.2 ∙ ap (λ (z : List EventValue). length z) (sym read.list.3))) in
    IfOk-weaker c.of_loaded.result _ _
    (λ k f. subst (λ A. KeepsUp (state g.S.Store k.keeper.conn) k.keeper.rows A) (sym f.1)
    (subst (λ (z : KeptTable _). KeepsUp (state g.S.Store z.conn) z.rows (append_new key_cmp [] events)) (sym f.0) first))
    (both_ok c.of_loaded.result _ _ c.of_loaded.ensures.keeper c.of_loaded.ensures.site)

pub returns-in-Ok-clause-settled : goal.returns-in-Ok-clause-settled
returns-in-Ok-clause-settled g c =
    IfOk-weaker c.of_loaded.result _ _
    (λ k f clean. let was = subst (λ (z : KeptTable _). HasCleanDisk (state g.S.Store z.conn)) f clean in
    subst (λ (z : KeptTable _). IsSettled (state g.S.Store z.conn)) (sym f) (c.in-Ok.ensures.effect was).settled)
    c.of_loaded.ensures.keeper
