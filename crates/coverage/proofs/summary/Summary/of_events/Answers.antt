use Rattle.std.proofs.Common.{rules, ◌≡◌, ◌||◌, ◌&&◌, ◌==◌, ap, ap₂, bytes_eq, subst, sym, take, ◌∙◌}
use Rattle.std.specs.Result.{IfOk}
use Rattle.std.proofs.lemmas.List.{take_all}
use Rattle.attributes.specs.Event.{source_of}
use Rattle.inbox.specs.Sets.{AreEvents, set_of}
use Rattle.inbox.proofs.OrderLemmas.{tied_events}
use Rattle.block_digests.specs.Kept.{IsKeptOf}
use Rattle.block_digests.specs.Number.{has_number}
use Rattle.coverage.specs.Digests.{Digests}
use Rattle.coverage.proofs.EventsLemmas.{comes, more_events, more_numbers, not_before, own_set, so_many}
use Rattle.coverage.proofs.summary.Summary.of_events.Goals as goal

pub loop-i-preserved : goal.loop-i-preserved
loop-i-preserved c =
    let E = c.args.events.now in
    let i = c.loop-i.i in
    let e = c.at-event.result.now in
    let inv = c.loop-i.invariant in (
      more_events E i e c.at-event.ensures inv.0 c.in_ok-note.ensures.event,
      λ s n. c.in_ok-insert_str.ensures.members s n
          ∙ ap₂ (λ b o. b || (bytes_eq s o && (n == c.number.result))) (inv.1 s n) (c.source.ensures.value ∙ ap source_of c.event.ensures)
          ∙ sym (more_numbers E i e c.at-event.ensures c.number.result c.number.ensures s n),
      subst (λ A. IsKeptOf A c.note.new.self) (comes E i e c.requires c.at-event.ensures)
          (c.in_ok-note.ensures.kept (take i E) inv.0 inv.2 (not_before E i e c.requires c.at-event.ensures) (so_many E i e c.at-event.ensures)),
    )

pub digested-requires-clause-numbers : goal.digested-requires-clause-numbers
digested-requires-clause-numbers c = λ s n.
    let E = c.args.events.now in
    let whole : take c.loop-i.i E ≡ E = take_all c.loop-i.i E (search rules) in
    let same : set_of E ≡ E = own_set c.sets_are_members.ensures (tied_events c.text_tells_events.ensures) E (subst AreEvents whole c.loop-i.invariant.0) c.requires in
    c.loop-i.invariant.1 s n ∙ ap (λ A. has_number A s n) (whole ∙ sym same)

pub returns-clause-digests : goal.returns-clause-digests
returns-clause-digests c =
    let E = c.args.events.now in
    let whole : take c.loop-i.i E ≡ E = take_all c.loop-i.i E (search rules) in
    let same : set_of E ≡ E = own_set c.sets_are_members.ensures (tied_events c.text_tells_events.ensures) E (subst AreEvents whole c.loop-i.invariant.0) c.requires in
    subst (λ A. IfOk c.digested.result (Digests A)) same c.digested.ensures
