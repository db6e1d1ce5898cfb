use Rattle.std.proofs.Common.{refl, rules, subst, sym}
use Rattle.library_calls.specs.Outboxes.{OpenedOutbox}
use Rattle.library_calls.proofs.outbox_calls.outbox_open.Goals as goal

pub returns-in-Ok : goal.returns-in-Ok
returns-in-Ok c = record {
  opened = (
    search rules,
    c.in-Ok.ensures,
    c.tell_service.ensures.tells,
  );
  text = search rules;
  number = search rules;
  listed = search rules;
  length_is = search rules;
}

pub returns-in-Err : goal.returns-in-Err
returns-in-Err c = subst (OpenedOutbox c.args.has_source c.args.source.now c.args.base _) (sym c.tell-in-Err.ensures) (record {
  opened = (c.in-Err.ensures, refl, refl, refl);
  text = search rules;
  number = refl;
  listed = refl;
  length_is = refl;
})
