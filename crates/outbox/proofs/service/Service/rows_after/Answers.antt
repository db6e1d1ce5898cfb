use Rattle.std.proofs.Common.{◌≡◌, ◌≤◌, ◌<◌, List, IfOk, IsTrue, OnOk, ◌∙◌, ap, arith, subst, sym}
use Rattle.std.proofs.lemmas.Result.{IfOk-weaker}
use Rattle.sqlite.specs.Effect.{Database}
use Rattle.sqlite.specs.Held.{state}
use Rattle.sqlite.specs.State.{HasCleanDisk}
use Rattle.attributes.specs.Sequence.{max_sequence}
use Rattle.outbox.specs.Call.{IsSettled}
use Rattle.outbox.specs.Order.{Accepted}
use Rattle.outbox.specs.Row.{rows_after}
use Rattle.outbox.specs.Service.{IsService}
use Rattle.outbox.specs.Shown.{Shown}
use Rattle.outbox.proofs.SameLemmas.{on_ok}
use Rattle.outbox.proofs.ServiceLemmas.{page_capped}
use Rattle.outbox.proofs.service.Service.rows_after.Goals as goal

pub returns-clause-rows : goal.returns-clause-rows
returns-clause-rows g c clean =
    let near : c.args.after ≤ max_sequence → c.min.result ≡ c.args.after = λ low. omega (arith, c.min.ensures, low) in
    let far : max_sequence < c.args.after → c.min.result ≡ max_sequence = λ high. omega (arith, c.min.ensures, high) in
    let low : c.self.inside.base ≤ max_sequence = omega (arith, c.self.invariant.0.low, c.self.invariant.0.high) in
    subst
    (λ (v : Shown _). IfOk c.stored_events.result (λ batch. (commands : List Accepted) → IsService (state g.S.Store v.conn).now v.source v.base commands → batch ≡ rows_after v.source v.base commands c.args.after c.args.limit))
    c.self.view_is
    (IfOk-weaker c.stored_events.result _ _
    (λ batch reads commands box.
    page_capped c.self.inside.source (state g.S.Store c.self.inside.conn).now c.self.inside.base c.args.after c.min.result c.args.limit commands c.in_ok-rows.rows.items batch low near far box (c.in_ok-rows.ensures.rows clean c.self.inside.source c.self.inside.base commands box)
    (λ n left is. rw c.as_str.ensures at (reads n left (c.deref.ensures.value ∙ is))))
    c.stored_events.ensures.events)

pub returns-clause-stays_open : goal.returns-clause-stays_open
returns-clause-stays_open g c clean = on_ok c.stored_events.result (c.in_ok-rows.ensures.open clean).1

pub returns-clause-settled : goal.returns-clause-settled
returns-clause-settled g c clean =
    let new = state g.S.Store c.page.new.conn in
    let was_clean : HasCleanDisk (state g.S.Store c.self.inside.conn) = omega (arith, c.page.ensures.same.clean, clean) in
    let box = (c.self.invariant.0.stands was_clean (c.in_ok-rows.ensures.open clean).0).table in
    let is = c.in_ok-rows.ensures.settled clean box.layout box.schema in
    let settled : IsSettled new = λ still db leaves. g.met.S.Store.settled c.page.new.conn.store db still leaves ∙ ap (λ (d : Database). d.trees) (sym is) in
    on_ok c.stored_events.result settled
