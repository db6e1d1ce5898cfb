use Rattle.std.proofs.Common.{◌≡◌, ◌≤◌, ◌∙◌, ap, rules, subst, sym}
use Rattle.attributes.specs.Sequence.{max_sequence}
use Rattle.outbox.specs.Shown.{IsAllowed}
use Rattle.library_calls.specs.Outboxes.{source_if_made}
use Rattle.library_calls.proofs.OutboxLemmas.{own_allowed}
use Rattle.library_calls.proofs.outbox_calls.source_given.Goals as goal

pub returns-in-Ok-clause-ok : goal.returns-in-Ok-clause-ok
returns-in-Ok-clause-ok c =
    let none : c.args.has_source ≡ 0 = search rules in
    let high : c.args.base ≤ max_sequence = search rules in (
      c.in-Ok.ensures ∙ ap (λ n. source_if_made n c.args.source.now) (sym none),
      subst (λ text. IsAllowed text c.args.base) (sym c.in-Ok.ensures) (own_allowed c.args.base high),
    )
