use Rattle.std.proofs.Common.{◌≤◌, inl, inr, refl, rules}
use Rattle.attributes.specs.Sequence.{max_sequence}
use Rattle.library_calls.proofs.outbox_calls.command_of.Goals as goal

pub returns-in-Err-clause-err : goal.returns-in-Err-clause-err
returns-in-Err-clause-err c =
    let low : 1 ≤ c.args.order = search rules in
    let high : c.args.order ≤ max_sequence = search rules in
    elim c.in-Err.ensures.err [
      | inl want ↦ inl (
        want.0,
        (
          record { status = c.in-Some.status; order = c.args.order; at = c.args.time.now },
          record {
            action_is = c.in-Some.ensures.some;
            order_is = refl;
            at_is = refl;
            command = record { low = low; high = high; text = want.1.text; time = want.1.time; short = want.1.short };
          },
        ),
      )
      | inr other ↦ inr (inr ((c.in-Some.status, c.in-Some.ensures.some), inr (other.0, (low, high), other.1)))
    ]
