use Rattle.std.proofs.Common.{subst, sym}
use Rattle.std.proofs.lemmas.Result.{IfErr-weaker, IfOk-weaker}
use Rattle.inbox_table.specs.Rows.{events_named}
use Rattle.inbox_table.specs.steps.Reads.{AreShown}
use Rattle.inbox_table.proofs.SameLemmas.{on_ok}
use Rattle.inbox_table.proofs.lookup.find_named.Goals as goal

pub returns-clause-tells : goal.returns-clause-tells
returns-clause-tells g c clean =
    IfOk-weaker c.events_in.result _ _ (λ batch reads l box. reads _ (subst (λ r. AreShown r (events_named c.args.source.now c.args.id.now l)) (sym c.deref.ensures.value) (c.in_ok-rows.ensures.rows clean l box))) c.events_in.ensures.events

pub returns-clause-foreign : goal.returns-clause-foreign
returns-clause-foreign g c clean =
    IfErr-weaker c.events_in.result _ _ (λ f refuses is l box. refuses is _ (subst (λ r. AreShown r (events_named c.args.source.now c.args.id.now l)) (sym c.deref.ensures.value) (c.in_ok-rows.ensures.rows clean l box))) c.events_in.ensures.foreign

pub returns-clause-open : goal.returns-clause-open
returns-clause-open g c clean = on_ok c.events_in.result (c.in_ok-rows.ensures.open clean)

pub returns-clause-settled : goal.returns-clause-settled
returns-clause-settled g c clean = on_ok c.events_in.result (c.in_ok-rows.ensures.settled clean)
