use Rattle.std.proofs.Common.{◌≡◌, ◌∙◌, ◌≤◌, ◌⊎◌, Bool, OnOk, arith, false, inl, inr, refl, rules, subst, sym, true}
use Rattle.std.specs.Prelude.{unwrap_or}
use Rattle.std.proofs.lemmas.Result.{IfErr-weaker, IfOk-weaker}
use Rattle.sqlite.specs.Held.{state}
use Rattle.attributes.specs.Sequence.{max_sequence}
use Rattle.database_layout.specs.Layout.{has_name}
use Rattle.outbox.specs.Call.{IsFounded}
use Rattle.databases.specs.declared.fault.CommandFault.{CommandFault}
use Rattle.databases.specs.declared.fault.CommandFault.TheVariants as command
use Rattle.databases.specs.Held.{IsNoOrders}
use Rattle.databases.specs.Service.{LeavesOrFounds, TellsOrFounds}
use Rattle.database_commands.proofs.ToldLemmas.{base_high, base_is, each_err, made_tells, made_told, there_tells, there_told, with_ok}
use Rattle.database_commands.proofs.told.tell_service.Goals as goal

-- what making a service comes to of a fault
no_other : (f : CommandFault) → (f ≡ command.OutOfMemory) ⊎ (f ≡ command.Store) → f ≡ command.AnotherSource → ⊥
no_other f (inl e) is = let bad : command.OutOfMemory ≡ command.AnotherSource = sym e ∙ is in cc
no_other f (inr e) is = let bad : command.Store ≡ command.AnotherSource = sym e ∙ is in cc

no_foreign : (f : CommandFault) → (f ≡ command.OutOfMemory) ⊎ (f ≡ command.Store) → f ≡ command.Foreign → ⊥
no_foreign f (inl e) is = let bad : command.OutOfMemory ≡ command.Foreign = sym e ∙ is in cc
no_foreign f (inr e) is = let bad : command.Store ≡ command.Foreign = sym e ∙ is in cc

no_orders : (f : CommandFault) → (f ≡ command.OutOfMemory) ⊎ (f ≡ command.Store) → IsNoOrders f
no_orders f (inl e) = inl e
no_orders f (inr e) = inr (inl e)

both : (b : Bool) → b ≡ true → b ≡ false → ⊥
both b is isnt = let bad : ◌≡◌ {A = Bool} true false = sym is ∙ isnt in cc

pub returns-then-has_name-clause-did : goal.returns-then-has_name-clause-did
returns-then-has_name-clause-did g c =
    let there : has_name c.args.conn.schema ≡ true = search rules in
    let of = c.told.ensures in
    let old = (state g.S.Store c.args.conn).now in
    let new = (state g.S.Store c.told.result.conn).now in
    record {
      told = λ clean. IfOk-weaker c.told.result.outcome _ _ (λ text it. there_tells c.args.source.now (unwrap_or c.args.base 0) old new text there (of.left.same clean it.0) it.1) (of.told clean);
      stands = λ clean. IfOk-weaker c.told.result.outcome _ _ (λ text it. there_told old new text (of.left.same clean it.0) it.2) (of.told clean);
      stays_open = λ clean. IfOk-weaker c.told.result.outcome _ _ (λ text it. it.0) (of.told clean);
      made = λ none clean. absurd (both _ there none);
      settled = λ none clean. absurd (both _ there none);
      there = λ there. of.left.same;
      back = each_err c.told.result.outcome _ of.left.same;
      clean = λ clean. omega (arith, of.left.clean, clean);
      crash = λ clean db may. inl (of.left.crash clean db may);
      another = of.another;
      foreign = of.foreign;
      fault = of.fault;
    }

pub made-requires : goal.made-requires
made-requires g c =
    let none : has_name c.args.conn.schema ≡ false = search rules in
    record {
      source = c.requires.source;
      base = subst (λ n. n ≤ max_sequence) (sym c.unwrap_or.ensures) (base_high c.args.base c.requires.base);
      none = none;
    }

pub returns-clause-did : goal.returns-clause-did
returns-clause-did g c =
    let none : has_name c.args.conn.schema ≡ false = search rules in
    let of = c.made.ensures in
    let base = c.unwrap_or.ensures in
    let old = (state g.S.Store c.args.conn).now in
    let new = (state g.S.Store c.made.result.conn).now in
    record {
      told = λ clean. IfOk-weaker c.made.result.outcome _ _ (λ text it. subst (λ n. TellsOrFounds c.args.source.now n old new text) base (made_tells c.args.source.now c.unwrap_or.result old new text none it.0.service it.1))
          (with_ok c.made.result.outcome _ _ (of.made clean) of.line);
      stands = λ clean. IfOk-weaker c.made.result.outcome _ _ (λ text it. made_told c.args.source.now c.unwrap_or.result new text it.0.service it.1) (with_ok c.made.result.outcome _ _ (of.made clean) of.line);
      stays_open = of.open;
      made = λ none clean. subst (λ n. OnOk c.made.result.outcome (IsFounded c.args.source.now n old new)) base (of.made clean);
      settled = λ none clean. of.settled clean;
      there = λ there. absurd (both _ there none);
      back = of.back;
      clean = of.clean;
      crash = subst (λ n. LeavesOrFounds c.args.source.now n (state g.S.Store c.args.conn) (state g.S.Store c.made.result.conn)) base of.crash;
      another = IfErr-weaker c.made.result.outcome _ _ (λ f either is. absurd (no_other f either is)) of.fault;
      foreign = IfErr-weaker c.made.result.outcome _ _ (λ f either is. absurd (no_foreign f either is)) of.fault;
      fault = IfErr-weaker c.made.result.outcome _ _ no_orders of.fault;
    }

pub returns-clause-line : goal.returns-clause-line
returns-clause-line g c =
    IfOk-weaker c.made.result.outcome _ _
    (λ text line. record { source = c.args.source.now; base = c.unwrap_or.result; orders = 0; rows = 0; meant = λ _. refl; at = base_is c.args.base c.unwrap_or.result c.unwrap_or.ensures; line = line })
    c.made.ensures.line
