use Rattle.std.proofs.Common.{◌≡◌, ◌∙◌, false, inl, inr, rules, subst, sym, arith, IsTrue}
use Rattle.std.proofs.lemmas.Result.{IfErr-at_err, IfErr-weaker, IfOk-at_ok, IfOk-weaker}
use Rattle.sqlite.specs.Effect.{Database}
use Rattle.sqlite.specs.Held.{state}
use Rattle.sqlite.specs.State.{State, HasCleanDisk}
use Rattle.database_layout.specs.Layout.{has_name}
use Rattle.outbox.specs.Call.{Leaves}
use Rattle.outbox.specs.Shown.{IsNoService}
use Rattle.databases.specs.Service.{IsServiceTold}
use Rattle.databases.specs.declared.fault.CommandFault.TheVariants as command
use Rattle.database_commands.proofs.DescribedLemmas.{describes, describes_one, says_both, says_one, untold}
use Rattle.database_commands.proofs.described.describe.Goals as goal

-- a second look at a database that is as it was
looks_then : (old mid new : State) → Leaves old mid → (HasCleanDisk mid → mid.now ≡ old.now) → Leaves mid new → Leaves old new
looks_then old mid new one same two = record {
  clean = omega (arith, one.clean, two.clean);
  same = λ clean still. let early : HasCleanDisk mid = omega (arith, two.clean, clean) in two.same clean still ∙ same early;
  crash = λ clean db may. let early : HasCleanDisk mid = omega (arith, two.clean, clean) in one.crash early db (two.crash clean db may);
}

pub returns-in-Err-clause-left : goal.returns-in-Err-clause-left
returns-in-Err-clause-left g c = c.in-Err.ensures.left

pub returns-then-not-has_name-clause-left : goal.returns-then-not-has_name-clause-left
returns-then-not-has_name-clause-left g c = c.in-Ok.ensures.left

pub returns-in-Ok-outcome-clause-left : goal.returns-in-Ok-outcome-clause-left
returns-in-Ok-outcome-clause-left g c =
    looks_then (state g.S.Store c.args.conn) (state g.S.Store c.inbox_line.new.conn) (state g.S.Store c.told-conn.result.conn) c.in-Ok.ensures.left c.in-Ok.ensures.same c.told-conn.ensures.left

pub returns-in-Err-outcome-clause-left : goal.returns-in-Err-outcome-clause-left
returns-in-Err-outcome-clause-left g c =
    looks_then (state g.S.Store c.args.conn) (state g.S.Store c.inbox_line.new.conn) (state g.S.Store c.told-conn.result.conn) c.in-Ok.ensures.left c.in-Ok.ensures.same c.told-conn.ensures.left

pub returns-in-Ok-outcome-clause-told : goal.returns-in-Ok-outcome-clause-told
returns-in-Ok-outcome-clause-told g c clean =
    let mid : HasCleanDisk (state g.S.Store c.inbox_line.new.conn) = omega (arith, c.told-conn.ensures.left.clean, clean) in
    let told = IfOk-at_ok _ c.in-Ok-outcome.is (c.told-conn.ensures.told clean) in
    let rest : IsServiceTold (state g.S.Store c.args.conn).now c.in-Ok-outcome.more = subst (λ (d : Database). IsServiceTold d c.in-Ok-outcome.more) (c.in-Ok.ensures.same mid) told.2 in
    IfOk-weaker c.joined-outcome.result _ _
    (λ text both. describes c.args.name.now (state g.S.Store c.args.conn).now c.in-Ok.line c.in-Ok-outcome.more text (c.in-Ok.ensures.told mid) (inr rest) both)
    c.joined-outcome.ensures.both

pub returns-in-Ok-outcome-clause-foreign : goal.returns-in-Ok-outcome-clause-foreign
returns-in-Ok-outcome-clause-foreign g c =
    IfErr-weaker c.joined-outcome.result _ _ (λ f is other. absurd (let bad : command.OutOfMemory ≡ command.Foreign = sym is ∙ other in cc)) c.joined-outcome.ensures.fault

pub returns-in-Ok-outcome-clause-fault : goal.returns-in-Ok-outcome-clause-fault
returns-in-Ok-outcome-clause-fault g c = IfErr-weaker c.joined-outcome.result _ _ (λ f is. inl is) c.joined-outcome.ensures.fault

pub returns-in-Ok-outcome-clause-line : goal.returns-in-Ok-outcome-clause-line
returns-in-Ok-outcome-clause-line g c =
    IfOk-weaker c.joined-outcome.result _ _
    (λ text both. says_both c.args.name.now c.in-Ok.line c.in-Ok-outcome.more text c.in-Ok.line c.in-Ok.ensures.line (IfOk-at_ok _ c.in-Ok-outcome.is c.told-conn.ensures.line) both)
    c.joined-outcome.ensures.both

pub returns-in-Err-outcome-clause-fault : goal.returns-in-Err-outcome-clause-fault
returns-in-Err-outcome-clause-fault g c =
    untold c.in-Err-outcome.fault (IfErr-at_err _ c.in-Err-outcome.is c.told-conn.ensures.fault)
    (λ is. let bad : IsTrue false = (IfErr-at_err _ c.in-Err-outcome.is c.told-conn.ensures.another is).0 in cc)

pub returns-in-Err-clause-foreign : goal.returns-in-Err-clause-foreign
returns-in-Err-clause-foreign g c is clean = inl (c.in-Err.ensures.foreign is clean)

pub returns-then-not-has_name-clause-told : goal.returns-then-not-has_name-clause-told
returns-then-not-has_name-clause-told g c clean =
    let none : has_name c.inbox_line.new.conn.schema ≡ false = search rules in
    describes_one c.args.name.now (state g.S.Store c.args.conn).now c.in-Ok.line (c.in-Ok.ensures.told clean)
    (subst (λ (d : Database). has_name d.schema ≡ false) (c.in-Ok.ensures.same clean) none)

pub returns-then-not-has_name-clause-line : goal.returns-then-not-has_name-clause-line
returns-then-not-has_name-clause-line g c = says_one c.args.name.now c.in-Ok.line c.in-Ok.ensures.line

pub returns-in-Err-outcome-clause-foreign : goal.returns-in-Err-outcome-clause-foreign
returns-in-Err-outcome-clause-foreign g c is clean =
    let mid : HasCleanDisk (state g.S.Store c.inbox_line.new.conn) = omega (arith, c.told-conn.ensures.left.clean, clean) in
    elim (IfErr-at_err _ c.in-Err-outcome.is c.told-conn.ensures.foreign is clean) [
      | inl none ↦ inr (subst IsNoService (c.in-Ok.ensures.same mid) none)
      | inr other ↦ absurd other.other
    ]
