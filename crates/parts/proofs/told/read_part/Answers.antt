use Rattle.std.proofs.Common.{sym, ap, ◌∙◌, subst}
use Rattle.attributes.specs.Fault.{IsEvent}
use Rattle.inbox.specs.Sets.{AreEvents, set_of}
use Rattle.inbox.proofs.OrderLemmas.{key_cmp_total}
use Rattle.inbox.proofs.SetLemmas.{all-in_order}
use Rattle.views.specs.Question.{IsAnswer}
use Rattle.parts.proofs.PartReadLemmas.{differs, equal_texts, none_told, told_there}
use Rattle.parts.proofs.told.read_part.Goals as goal

pub returns-in_default-clause-none : goal.returns-in_default-clause-none
returns-in_default-clause-none c E held answer = none_told (sym c.in_default.is ∙ c.in_ok-list.ensures E held answer)

pub returns-then-ne-clause-none : goal.returns-then-ne-clause-none
returns-then-ne-clause-none c E held answer =
    differs c.text_tells_events.ensures c.answers_are_alike.ensures.one c.args.query c.requires E held c.args.text.now c.in-Some.list _ c.in_ok-again.again c.as_str.result.now
    (sym c.in-Some.is ∙ c.in_ok-list.ensures E held answer) (c.in_ok-inbox.ensures.set ∙ ap set_of c.as_slice.ensures) c.in_ok-again.ensures.lines c.as_str.ensures answer c.if-ne.ensures

pub returns-clause-some : goal.returns-clause-some
returns-clause-some c =
    let same = equal_texts c.as_str.result.now c.args.text.now c.if-ne.ensures in
    let set = c.in_ok-inbox.ensures.set ∙ ap set_of c.as_slice.ensures in
    told_there c.text_tells_events.ensures c.args.query c.args.text.now c.in-Some.list c.in_ok-list.field-0 _
    (subst AreEvents set (all-in_order key_cmp_total IsEvent _ c.in_ok-inbox.ensures.events)) c.in-Some.is c.in_ok-list.ensures set
    (subst (IsAnswer c.args.query _) (sym c.as_str.ensures ∙ same) c.in_ok-again.ensures.lines)
