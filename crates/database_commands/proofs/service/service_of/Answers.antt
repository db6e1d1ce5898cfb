use Rattle.std.proofs.Common.{◌≡◌, ◌∙◌, ◌⊎◌, IsTrue, ap, arith, inl, inr, refl, rules, subst, sym}
use Rattle.sqlite.specs.Held.{state}
use Rattle.sqlite.specs.State.{HasCleanDisk}
use Rattle.outbox.specs.Opening.{LeavesOrMakes}
use Rattle.outbox.specs.declared.fault.OutboxFault.{OutboxFault}
use Rattle.outbox.specs.declared.fault.OutboxFault.TheVariants as outbox
use Rattle.databases.specs.Fault.{of_outbox}
use Rattle.databases.specs.Held.{IsNoOrders}
use Rattle.database_commands.proofs.ServedLemmas.{not_another, opened_beside, opened_other, opened_served}
use Rattle.database_commands.proofs.service.service_of.Goals as goal

no_orders : (f : OutboxFault) → (f ≡ outbox.OutOfMemory) ⊎ ((f ≡ outbox.Store) ⊎ (f ≡ outbox.Foreign)) → IsNoOrders (of_outbox f)
no_orders f (inl is) = inl (ap of_outbox is)
no_orders f (inr (inl is)) = inr (inl (ap of_outbox is))
no_orders f (inr (inr is)) = inr (inr (inl (ap of_outbox is)))

pub returns-else-is_named-clause-served : goal.returns-else-is_named-clause-served
returns-else-is_named-clause-served g c clean = opened_served c.args.source.now (state g.S.Store c.args.conn) c.in-Ok.service (state g.S.Store c.in-Ok.service.conn) c.in-Ok.ensures.opened clean

pub returns-else-is_named-clause-beside : goal.returns-else-is_named-clause-beside
returns-else-is_named-clause-beside g c clean = opened_beside c.args.source.now (state g.S.Store c.args.conn) c.in-Ok.service (state g.S.Store c.in-Ok.service.conn) c.in-Ok.ensures.opened clean

pub returns-then-not-is_same-clause-another : goal.returns-then-not-is_same-clause-another
returns-then-not-is_same-clause-another g c is =
    let named : IsTrue c.args.is_named = search rules in
    let differs : c.in-Ok.service.source ≡ c.args.source.now → ⊥ = search rules in (
      named,
      λ clean.
          let late : HasCleanDisk (state g.S.Store c.in-Ok.service.conn) = subst (λ h. HasCleanDisk (state g.S.Store h)) c.into_connection.ensures clean in
          (opened_other c.args.source.now (state g.S.Store c.args.conn) c.in-Ok.service (state g.S.Store c.in-Ok.service.conn) c.in-Ok.ensures.opened late differs).0,
    )

pub returns-else-is_named-clause-clean : goal.returns-else-is_named-clause-clean
returns-else-is_named-clause-clean g c clean = omega (arith, c.in-Ok.ensures.opened.clean, clean)

pub returns-then-not-is_same-clause-clean_refused : goal.returns-then-not-is_same-clause-clean_refused
returns-then-not-is_same-clause-clean_refused g c clean =
    let late : HasCleanDisk (state g.S.Store c.in-Ok.service.conn) = subst (λ h. HasCleanDisk (state g.S.Store h)) c.into_connection.ensures clean in
    omega (arith, c.in-Ok.ensures.opened.clean, late)

pub returns-then-not-is_same-clause-crash_refused : goal.returns-then-not-is_same-clause-crash_refused
returns-then-not-is_same-clause-crash_refused g c =
    subst (λ h. LeavesOrMakes c.args.source.now 0 (state g.S.Store c.args.conn) (state g.S.Store h)) (sym c.into_connection.ensures) c.in-Ok.ensures.opened.crash

pub returns-in-Err-clause-clean_refused : goal.returns-in-Err-clause-clean_refused
returns-in-Err-clause-clean_refused g c clean = omega (arith, c.in-Err.ensures.refused.clean, clean)

pub returns-else-is_named-clause-stands : goal.returns-else-is_named-clause-stands
returns-else-is_named-clause-stands g c = c.in-Ok.ensures.opened.stands

pub returns-else-is_named-clause-stays_open : goal.returns-else-is_named-clause-stays_open
returns-else-is_named-clause-stays_open g c = c.in-Ok.ensures.opened.stays_open

pub returns-else-is_named-clause-crash : goal.returns-else-is_named-clause-crash
returns-else-is_named-clause-crash g c = c.in-Ok.ensures.opened.crash

pub returns-then-not-is_same-clause-back : goal.returns-then-not-is_same-clause-back
returns-then-not-is_same-clause-back g c clean still =
    let differs : c.in-Ok.service.source ≡ c.args.source.now → ⊥ = search rules in
    let late : HasCleanDisk (state g.S.Store c.in-Ok.service.conn) = subst (λ h. HasCleanDisk (state g.S.Store h)) c.into_connection.ensures clean in
    subst (λ h. (state g.S.Store h).now ≡ (state g.S.Store c.args.conn).now) (sym c.into_connection.ensures)
    (opened_other c.args.source.now (state g.S.Store c.args.conn) c.in-Ok.service (state g.S.Store c.in-Ok.service.conn) c.in-Ok.ensures.opened late differs).1

pub returns-in-Err-clause-back : goal.returns-in-Err-clause-back
returns-in-Err-clause-back g c = c.in-Err.ensures.refused.same

pub returns-in-Err-clause-crash_refused : goal.returns-in-Err-clause-crash_refused
returns-in-Err-clause-crash_refused g c = c.in-Err.ensures.refused.crash

pub returns-then-not-is_same-clause-fault : goal.returns-then-not-is_same-clause-fault
returns-then-not-is_same-clause-fault g c = inr (inr (inr refl))

pub returns-in-Err-clause-another : goal.returns-in-Err-clause-another
returns-in-Err-clause-another g c is = absurd (not_another c.in-Err.refused.fault (sym c.of_outbox.ensures ∙ is))

pub returns-in-Err-clause-fault : goal.returns-in-Err-clause-fault
returns-in-Err-clause-fault g c = subst IsNoOrders (sym c.of_outbox.ensures) (no_orders c.in-Err.refused.fault c.in-Err.ensures.refused.fault)
