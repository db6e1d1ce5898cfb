use Rattle.std.proofs.Common.{◌≡◌, ◌⊎◌, ◌∙◌, ap, inl, subst, sym}
use Rattle.std.proofs.lemmas.Result.{IfErr-weaker, IfOk-weaker}
use Rattle.databases.specs.Print.{counts_line}
use Rattle.databases.specs.declared.fault.CommandFault.{CommandFault}
use Rattle.databases.specs.declared.fault.CommandFault.TheVariants as command
use Rattle.databases.proofs.BesideLemmas.{service_kept, service_same}
use Rattle.databases.proofs.HeldLemmas.{on_ok, store_told}
use Rattle.database_commands.proofs.intake.kept.Goals as goal

pub returns-in-Ok-clause-taken : goal.returns-in-Ok-clause-taken
returns-in-Ok-clause-taken g c clean =
    IfOk-weaker c.counts_line.result _ _
    (λ text line held box. record {
      kept = (c.in-Ok.ensures.effect clean).takes held box;
      fresh = c.in-Ok.fresh;
      count = (c.in-Ok.ensures.effect clean).fresh held box;
      line = line ∙ ap (λ n. counts_line n c.in-Ok.fresh) c.len.ensures;
    })
    c.counts_line.ensures.line

pub returns-in-Ok-clause-beside : goal.returns-in-Ok-clause-beside
returns-in-Ok-clause-beside g c clean still = service_kept _ _ (c.in-Ok.ensures.effect clean).beside

pub returns-in-Ok-clause-told : goal.returns-in-Ok-clause-told
returns-in-Ok-clause-told g c = on_ok c.counts_line.result _ c.in-Ok.ensures.told

pub returns-in-Err-clause-beside : goal.returns-in-Err-clause-beside
returns-in-Err-clause-beside g c clean still = service_same _ _ ((c.in-Err.ensures.effect clean).same still)

pub returns-in-Ok-clause-stays_open : goal.returns-in-Ok-clause-stays_open
returns-in-Ok-clause-stays_open g c clean = on_ok c.counts_line.result _ (c.in-Ok.ensures.effect clean).stays_open

pub returns-in-Ok-clause-settled : goal.returns-in-Ok-clause-settled
returns-in-Ok-clause-settled g c clean = on_ok c.counts_line.result _ (c.in-Ok.ensures.effect clean).settled

pub returns-in-Ok-clause-fault : goal.returns-in-Ok-clause-fault
returns-in-Ok-clause-fault g c = IfErr-weaker c.counts_line.result _ _ (λ f is. inl is) c.counts_line.ensures.fault

pub returns-in-Err-clause-fault : goal.returns-in-Err-clause-fault
returns-in-Err-clause-fault g c =
    let Told : CommandFault → Type 0 = λ f. (f ≡ command.OutOfMemory) ⊎ (f ≡ command.Store) in
    subst Told (sym c.of_table.ensures) (store_told c.in-Err.fault c.in-Err.ensures.call.fault)
