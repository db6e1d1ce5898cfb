use Rattle.std.proofs.Common.{refl, rules, subst, sym}
use Rattle.library_calls.specs.Numbers.{OpenedNumbers}
use Rattle.library_calls.proofs.number_calls.numbers_open.Goals as goal

pub returns-in-Err : goal.returns-in-Err
returns-in-Err c = subst (OpenedNumbers c.args.base _) (sym c.tell_nothing-in-Err.ensures) (record {
  opened = (c.in-Err.ensures, refl);
  text = search rules;
  listed = refl;
  length_is = refl;
})
