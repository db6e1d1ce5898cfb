use Rattle.std.proofs.Common.{◌∙◌, ap, inl, inr, rules, Err, sym}
use Rattle.attributes.specs.Time.{time_day}
use Rattle.library_calls.proofs.outbox_calls.moment_of.Goals as goal

pub returns-in-Err-clause-err : goal.returns-in-Err-clause-err
returns-in-Err-clause-err c =
    let text = c.in-Ok.ensures.cases in
    elim c.time_status.ensures [
      | inl want ↦ inl (
        want.0,
        record {
          text = text.1;
          time = λ untimed. let bad = sym (ap (λ f. Err f) want.1) ∙ c.in-Err.ensures.no_time (ap time_day text.0 ∙ untimed) in cc;
          short = search rules;
        },
      )
      | inr other ↦ inr (other.0, λ is. is.time (sym (ap time_day text.0) ∙ (c.in-Err.ensures.refused other.1).1))
    ]
