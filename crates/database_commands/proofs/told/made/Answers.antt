use Rattle.std.proofs.Common.{◌≡◌, ◌∙◌, ◌⊎◌, false, inl, true, arith, Bool, IsTrue, subst, sym}
use Rattle.sqlite.specs.Held.{state}
use Rattle.sqlite.specs.State.{HasCleanDisk}
use Rattle.outbox.specs.Call.{IsFounded, IsSettled}
use Rattle.databases.specs.declared.fault.CommandFault.{CommandFault}
use Rattle.databases.specs.declared.fault.CommandFault.TheVariants as command
use Rattle.databases.specs.Service.{LeavesOrFounds}
use Rattle.database_commands.proofs.ToldLemmas.{no_foreign}
use Rattle.database_commands.proofs.told.made.Goals as goal

pub returns-in-Ok-create-clause-made : goal.returns-in-Ok-create-clause-made
returns-in-Ok-create-clause-made g c clean =
    let late : HasCleanDisk (state g.S.Store c.in-Ok-create.service.conn) = subst (λ h. HasCleanDisk (state g.S.Store h)) c.into_connection-conn.ensures clean in
    subst (λ h. IsFounded c.args.source.now c.args.base (state g.S.Store c.args.conn).now (state g.S.Store h).now) (sym c.into_connection-conn.ensures) (c.in-Ok-create.ensures.made late)

pub returns-in-Ok-create-clause-settled : goal.returns-in-Ok-create-clause-settled
returns-in-Ok-create-clause-settled g c clean =
    let late : HasCleanDisk (state g.S.Store c.in-Ok-create.service.conn) = subst (λ h. HasCleanDisk (state g.S.Store h)) c.into_connection-conn.ensures clean in
    subst (λ h. IsSettled (state g.S.Store h)) (sym c.into_connection-conn.ensures) (c.in-Ok-create.ensures.settled late)

pub returns-in-Ok-create-clause-open : goal.returns-in-Ok-create-clause-open
returns-in-Ok-create-clause-open g c clean =
    let late : HasCleanDisk (state g.S.Store c.in-Ok-create.service.conn) = subst (λ h. HasCleanDisk (state g.S.Store h)) c.into_connection-conn.ensures clean in
    subst (λ h. IsTrue (state g.S.Store h).is_open) (sym c.into_connection-conn.ensures) (c.in-Ok-create.ensures.open late)

pub returns-in-Ok-create-clause-crash : goal.returns-in-Ok-create-clause-crash
returns-in-Ok-create-clause-crash g c =
    subst (λ h. LeavesOrFounds c.args.source.now c.args.base (state g.S.Store c.args.conn) (state g.S.Store h)) (sym c.into_connection-conn.ensures) (λ clean. c.in-Ok-create.ensures.crash.crash clean)

pub returns-in-Err-clause-crash : goal.returns-in-Err-clause-crash
returns-in-Err-clause-crash g c clean db may = inl may

pub returns-in-Err-create-clause-crash : goal.returns-in-Err-create-clause-crash
returns-in-Err-create-clause-crash g c clean = c.in-Err-create.ensures.crash_refused.crash clean

pub returns-in-Err-create-clause-fault : goal.returns-in-Err-create-clause-fault
returns-in-Err-create-clause-fault g c =
    subst (λ (f : CommandFault). (f ≡ command.OutOfMemory) ⊎ (f ≡ command.Store)) (sym c.of_outbox.ensures)
    (no_foreign c.in-Err-create.refused.fault c.in-Err-create.ensures.fault
    (λ is. let e : ◌≡◌ {A = Bool} true false = sym (c.in-Err-create.ensures.foreign is) ∙ c.requires.none in cc))

pub returns-in-Ok-create-clause-clean : goal.returns-in-Ok-create-clause-clean
returns-in-Ok-create-clause-clean g c clean =
    let late : HasCleanDisk (state g.S.Store c.in-Ok-create.service.conn) = subst (λ h. HasCleanDisk (state g.S.Store h)) c.into_connection-conn.ensures clean in
    omega (arith, c.in-Ok-create.ensures.crash.clean, late)

pub returns-in-Err-create-clause-clean : goal.returns-in-Err-create-clause-clean
returns-in-Err-create-clause-clean g c clean = omega (arith, c.in-Err-create.ensures.crash_refused.clean, clean)
