use Rattle.std.proofs.Common.{◌≡◌, ◌≢◌, ◌<◌, ◌≤◌, ℕ, length, IfErr, IfOk, subst, sym}
use Rattle.attributes.specs.declared.fault.Fault.TheVariants as Fault
use Rattle.event_json.specs.Reading.{Reads, Refuses, max_input}
use Rattle.event_json.specs.declared.fault.ReadFault.TheVariants as ReadFault
use Rattle.std.proofs.lemmas.Result.{IfErr-weaker}
use Rattle.serde_json.specs.View.{view}
use Rattle.event_json.proofs.FaultLemmas.{unnamed}
use Rattle.event_json.proofs.OutcomeLemmas.{whole_reads, whole_refuses, whole_names, whole_has_bytes}
use Rattle.event_json.proofs.PieceLemmas.{of_some}
use Rattle.event_json.proofs.read.read_events.Goals as goal

pub returns-in-Some-clause-ok : goal.returns-in-Some-clause-ok
returns-in-Some-clause-ok c =
    let found = of_some _ c.in_ok-outcome.field-0 c.in-Some.outcome c.in-Some.is c.in_ok-outcome.ensures.gathers in
    let fits : length c.args.bytes.now ≤ max_input = search in
    subst (λ o. IfOk o (λ l. Reads c.args.bytes.now l)) (sym c.result.ensures) (whole_reads c.args.bytes.now c.in-Some.outcome found fits)

pub returns-in-Some-clause-refused : goal.returns-in-Some-clause-refused
returns-in-Some-clause-refused c =
    let found = of_some _ c.in_ok-outcome.field-0 c.in-Some.outcome c.in-Some.is c.in_ok-outcome.ensures.gathers in
    let fits : length c.args.bytes.now ≤ max_input = search in
    subst (λ o. IfErr o (λ f. f ≢ ReadFault.OutOfMemory → Refuses c.args.bytes.now f)) (sym c.result.ensures) (whole_refuses c.args.bytes.now c.in-Some.outcome found fits)

pub returns-in-Some-clause-named : goal.returns-in-Some-clause-named
returns-in-Some-clause-named c =
    let found = of_some _ c.in_ok-outcome.field-0 c.in-Some.outcome c.in-Some.is c.in_ok-outcome.ensures.gathers in
    subst (λ o. IfErr o (λ f. (i : ℕ) → f ≢ ReadFault.BadEvent i Fault.OutOfMemory)) (sym c.result.ensures) (whole_names c.args.bytes.now c.in-Some.outcome found)

pub returns-in-Some-clause-memory : goal.returns-in-Some-clause-memory
returns-in-Some-clause-memory c =
    let found = of_some _ c.in_ok-outcome.field-0 c.in-Some.outcome c.in-Some.is c.in_ok-outcome.ensures.gathers in
    subst (λ o. IfErr o (λ f. f ≡ ReadFault.OutOfMemory → 0 < length c.args.bytes.now)) (sym c.result.ensures) (whole_has_bytes c.args.bytes.now c.in-Some.outcome found)

pub returns-clause-named : goal.returns-clause-named
returns-clause-named c =
    IfErr-weaker c.read_value.result _ _ (λ f h i is. unnamed (view c.in_ok-value.value) f i h is) c.read_value.ensures.refused
