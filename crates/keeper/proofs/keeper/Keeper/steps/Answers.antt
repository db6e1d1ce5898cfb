use Rattle.std.proofs.Common.{◌*◌, Ok, Err, ap, ◌∙◌, sym, subst}
use Rattle.sqlite.specs.Held.{state}
use Rattle.inbox_table.specs.Calls.{KeptTable}
use Rattle.site.specs.Page.{page}
use Rattle.site_lock.specs.Pass.{leaves}
use Rattle.keeper.proofs.GatherLemmas.{not_refused}
use Rattle.keeper.proofs.PageLemmas.{pages_refused, pages_taken, pages_unasked}
use Rattle.keeper.proofs.keeper.Keeper.steps.Goals as goal
use Rattle.keeper.specs.Keep.{KeepsPages, KeepsUp, max_page}

pub returns-in-Ok-keep-clause-keeps : goal.returns-in-Ok-keep-clause-keeps
returns-in-Ok-keep-clause-keeps g c =
    let B = leaves c.gathered.new.pass in
    let most = max_page * c.args.pages in
    subst (λ (k : KeptTable _). KeepsPages (λ conn. state g.S.Store conn) most k c.keep.new.self B (Ok c.in-Ok-keep.fresh)) c.self.view_is
    (pages_taken (λ conn. state g.S.Store conn) c.self.inside.table c.keep.new.self c.in-Ok.events c.in-Ok-keep.ensures.crash most (leaves c.args.pass.now) B c.gathered.ensures.added.0 c.gathered.ensures.added.1
    (c.in-Ok.ensures.page ∙ ap (λ n. page B n most) c.rows-mark.ensures.rows) c.gathered.ensures.once (subst (λ (k : KeptTable _). KeepsUp (state g.S.Store k.conn) k.rows (leaves c.args.pass.now)) (sym c.self.view_is) c.requires.first)
    c.in-Ok-keep.fresh c.in-Ok-keep.ensures.call c.in-Ok-keep.ensures.effect)

pub returns-in-Ok-clause-keeps : goal.returns-in-Ok-clause-keeps
returns-in-Ok-clause-keeps g c =
    let B = leaves c.gathered.new.pass in
    let most = max_page * c.args.pages in
    subst (λ (k : KeptTable _). KeepsPages (λ conn. state g.S.Store conn) most k c.keep.new.self B (Err c.from.result)) c.self.view_is
    (pages_refused (λ conn. state g.S.Store conn) c.self.inside.table c.keep.new.self c.in-Ok.events c.in-Err-keep.ensures.crash most (leaves c.args.pass.now) B c.gathered.ensures.added.0 c.gathered.ensures.added.1
    (c.in-Ok.ensures.page ∙ ap (λ n. page B n most) c.rows-mark.ensures.rows) c.gathered.ensures.once (subst (λ (k : KeptTable _). KeepsUp (state g.S.Store k.conn) k.rows (leaves c.args.pass.now)) (sym c.self.view_is) c.requires.first)
    c.in-Err-keep.fault c.from.result c.from.ensures c.in-Err-keep.ensures.call c.in-Err-keep.ensures.effect)

pub returns-clause-keeps : goal.returns-clause-keeps
returns-clause-keeps g c =
    pages_unasked (λ conn. state g.S.Store conn) c.args.self.now (max_page * c.args.pages) (leaves c.args.pass.now) (leaves c.gathered.new.pass) c.gathered.ensures.added.0 c.from-in-Err.result c.gathered.ensures.added.1
    c.requires.first c.from-in-Err.ensures

pub returns-in-Ok-keep-clause-refused : goal.returns-in-Ok-keep-clause-refused
returns-in-Ok-keep-clause-refused g c = λ refused. absurd (not_refused c.gathered.new.pass c.in-Ok.ensures.replied refused)

pub returns-in-Ok-clause-refused : goal.returns-in-Ok-clause-refused
returns-in-Ok-clause-refused g c = λ refused. absurd (not_refused c.gathered.new.pass c.in-Ok.ensures.replied refused)
