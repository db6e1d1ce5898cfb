use Rattle.std.proofs.Common.{◌∙◌, inl, inr, IsTrue, subst, sym}
use Rattle.std.proofs.lemmas.Result.{IfErr-weaker, IfOk-weaker}
use Rattle.sqlite.specs.Held.{state}
use Rattle.sqlite.specs.State.{HasCleanDisk}
use Rattle.outbox.specs.Call.{Leaves}
use Rattle.outbox.specs.Service.{IsService}
use Rattle.database_commands.proofs.ToldLemmas.{foreign_is, told_each, told_is}
use Rattle.database_commands.proofs.told.told.Goals as goal

pub returns-in-Ok-clause-left : goal.returns-in-Ok-clause-left
returns-in-Ok-clause-left g c = subst (λ h. Leaves (state g.S.Store c.args.conn) (state g.S.Store h)) (sym c.into_connection-conn.ensures) c.in-Ok.ensures.left

pub returns-in-Ok-clause-told : goal.returns-in-Ok-clause-told
returns-in-Ok-clause-told g c clean =
    let old = (state g.S.Store c.args.conn).now in
    let it = c.in-Ok.service in
    let late : HasCleanDisk (state g.S.Store it.conn) = subst (λ h. HasCleanDisk (state g.S.Store h)) c.into_connection-conn.ensures clean in
    let of = c.in-Ok.ensures in
    let still = of.open late in
    let same = of.left.same late still in
    IfOk-weaker c.line_of-outcome.result _ _
    (λ text line.
    let counts = line.counts late still in
    let each = told_each old (state g.S.Store it.conn).now it.source it.base line.orders line.rows text (of.exact late) same line.line counts.0 counts.1 in (
      subst (λ h. IsTrue (state g.S.Store h).is_open) (sym c.into_connection-conn.ensures) still,
      each,
      told_is old (state g.S.Store it.conn).now it.source it.base it.last text same (of.stands.stands late still) each,
    ))
    c.line_of-outcome.ensures.line

pub returns-in-Ok-clause-another : goal.returns-in-Ok-clause-another
returns-in-Ok-clause-another g c =
    let it = c.in-Ok.service in
    let of = c.in-Ok.ensures in
    IfErr-weaker c.line_of-outcome.result _ _
    (λ f says is. (
      (says is).0,
      λ clean.
          let late : HasCleanDisk (state g.S.Store it.conn) = subst (λ h. HasCleanDisk (state g.S.Store h)) c.into_connection-conn.ensures clean in
          let still = of.open late in
          let box = of.stands.stands late still in
          record {
            source = it.source;
            base = it.base;
            commands = box.commands;
            service = subst (λ db. IsService db it.source it.base box.commands) (of.left.same late still) box.table;
            other = (says is).1;
          },
    ))
    c.line_of-outcome.ensures.another

pub returns-in-Ok-clause-foreign : goal.returns-in-Ok-clause-foreign
returns-in-Ok-clause-foreign g c =
    let it = c.in-Ok.service in
    let of = c.in-Ok.ensures in
    IfErr-weaker c.line_of-outcome.result _ _
    (λ f says is clean.
    let late : HasCleanDisk (state g.S.Store it.conn) = subst (λ h. HasCleanDisk (state g.S.Store h)) c.into_connection-conn.ensures clean in
    let still = of.open late in
    let box = of.stands.stands late still in
    inr (record {
      source = it.source;
      base = it.base;
      commands = box.commands;
      service = subst (λ db. IsService db it.source it.base box.commands) (of.left.same late still) box.table;
      meant = (says is).0;
      other = (says is).1;
    }))
    c.line_of-outcome.ensures.foreign

pub returns-in-Ok-clause-line : goal.returns-in-Ok-clause-line
returns-in-Ok-clause-line g c =
    let it = c.in-Ok.service in
    IfOk-weaker c.line_of-outcome.result _ _
    (λ text line. record { source = it.source; base = it.base; orders = line.orders; rows = line.rows; meant = line.meant; at = line.at; line = line.line })
    c.line_of-outcome.ensures.line

pub returns-in-Err-clause-foreign : goal.returns-in-Err-clause-foreign
returns-in-Err-clause-foreign g c is clean = inl (c.in-Err.ensures.foreign clean (foreign_is c.in-Err.refused.fault (sym c.of_outbox.ensures ∙ is)))
