use Rattle.std.proofs.Common.{take, sym, ap, ◌∙◌}
use Rattle.std.specs.Prelude.{◌||◌}
use Rattle.attributes.specs.Event.{source_of}
use Rattle.coverage.specs.Summary.{holds_at}
use Rattle.inbox.specs.Kept.{events}
use Rattle.views.proofs.StepLemmas.{take_next}
use Rattle.views.specs.Number.{has_number, is_numbered}
use Rattle.views.proofs.GapLemmas.{has_number-more, is_numbered-Some}
use Rattle.views.proofs.number.sum_numbers.Goals as goal

pub loop-i-preserved : goal.loop-i-preserved
loop-i-preserved c =
    let E = events c.args.inbox.now in
    let e = c.at-event.result.now in
    let was = c.loop-i.invariant in
    record {
      version = c.in_ok-insert.ensures.version;
      in_form = c.insert.ensures.summary;
      exact = λ s n. c.in_ok-insert.ensures.members s n
          ∙ ap (λ b. holds_at c.loop-i.summary s n || b) (is_numbered-Some e c.in_ok-source.source s c.number.result n (c.in_ok-source.ensures ∙ c.source.ensures.value ∙ ap source_of c.event.ensures) c.number.ensures)
          ∙ ap (λ b. b || is_numbered e s n) (was.exact s n)
          ∙ sym (has_number-more (take c.loop-i.i E) e s n) ∙ ap (λ l. has_number l s n) (sym (take_next E c.loop-i.i e c.at-event.ensures));
    }
