use Rattle.std.proofs.Common.{◌∙◌, IsTrue, arith, rules, sym, subst}
use Rattle.outbox.specs.Order.{Accepted, IsCommand}
use Rattle.outbox.proofs.ReplayLemmas.{row_tells}
use Rattle.outbox.proofs.adoption.command_in.Goals as goal

pub returns-in_default-clause-none : goal.returns-in_default-clause-none
returns-in_default-clause-none c d command is = c.in_default.ensures.none c.args.number d command.text is

pub returns-then-branch-clause-command : goal.returns-then-branch-clause-command
returns-then-branch-clause-command c =
    let yes = c.in_ok-is_time.ensures.time.0 c.if-branch.true in
    record { low = omega arith; high = search rules; text = c.in-Some.ensures.text; time = yes.0; short = yes.1 }

pub returns-else-branch-clause-none : goal.returns-else-branch-clause-none
returns-else-branch-clause-none c d command is =
    let it : Accepted = record { status = c.in-Some.stored.status; order = c.in-Some.stored.order; at = c.in-Some.stored.at.now } in
    let same = row_tells c.in-Some.stored.number c.args.number it d (sym c.in-Some.ensures.some ∙ is) in
    let mine : IsCommand it = subst IsCommand (sym same) command in
    let yes : IsTrue c.in_ok-is_time.field-0 = c.in_ok-is_time.ensures.time.1 (mine.time, mine.short) in
    let none : ⊥ = search rules in
    none
