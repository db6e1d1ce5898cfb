use Rattle.std.proofs.Common.{List, FitsSigned, rules, subst, sym, w64}
use Rattle.std.proofs.lemmas.Int.{to_z-of_z}
use Rattle.std.proofs.lemmas.Result.{IfErr-weaker, IfOk-weaker}
use Rattle.sqlite.specs.Held.{state}
use Rattle.sqlite.specs.State.{HasCleanDisk}
use Rattle.attributes.specs.Event.{EventValue}
use Rattle.inbox_table.specs.Rows.{IsInbox, events_after}
use Rattle.inbox_table.specs.steps.Reads.{AreShown}
use Rattle.inbox_table.proofs.LookupLemmas.{finds_after}
use Rattle.inbox_table.proofs.SameLemmas.{on_ok}
use Rattle.inbox_table.proofs.lookup.find_after.Goals as goal

shown : (g : _) (c : goal.After-drop-rows g) → HasCleanDisk (state g.S.Store c.rows_after.new.conn) → (l : List EventValue) → IsInbox (state g.S.Store c.args.conn.now).now l → AreShown c.in_ok-rows.rows.items (events_after c.args.place c.args.count l)
shown g c clean l box =
    let fits : FitsSigned w64 c.signed.result = search rules in
    let fits2 : FitsSigned w64 c.signed-2.result = search rules in
    finds_after c.args.place c.args.count (state g.S.Store c.args.conn.now) (state g.S.Store c.rows_after.new.conn) l c.in_ok-rows.rows.items box
    (rw (to_z-of_z w64 c.signed.result fits, c.signed.ensures, to_z-of_z w64 c.signed-2.result fits2, c.signed-2.ensures) at (c.in_ok-rows.ensures.shown clean))

pub returns-clause-tells : goal.returns-clause-tells
returns-clause-tells g c clean =
    IfOk-weaker c.events_in.result _ _ (λ batch reads l box. reads _ (subst (λ r. AreShown r (events_after c.args.place c.args.count l)) (sym c.deref.ensures.value) (shown g c clean l box))) c.events_in.ensures.events

pub returns-clause-foreign : goal.returns-clause-foreign
returns-clause-foreign g c clean =
    IfErr-weaker c.events_in.result _ _ (λ f refuses is l box. refuses is _ (subst (λ r. AreShown r (events_after c.args.place c.args.count l)) (sym c.deref.ensures.value) (shown g c clean l box))) c.events_in.ensures.foreign

pub returns-clause-open : goal.returns-clause-open
returns-clause-open g c clean = on_ok c.events_in.result (c.in_ok-rows.ensures.open clean)

pub returns-clause-settled : goal.returns-clause-settled
returns-clause-settled g c clean = on_ok c.events_in.result (c.in_ok-rows.ensures.settled clean)
