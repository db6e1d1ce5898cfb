use Rattle.std.proofs.Common.{◌<◌, [], get_or, sym, ◌∙◌, ap, subst, Some, true≢false}
use Rattle.std.proofs.lemmas.Option.{slice_get-get_or}
use Rattle.attributes.specs.Event.{source_of}
use Rattle.parts.specs.Part.{part_of}
use Rattle.parts.proofs.DivisionLemmas.{moved, none_left}
use Rattle.parts.proofs.division.split.Goals as goal

pub loop-event-preserved : goal.loop-event-preserved
loop-event-preserved c =
    let parts = c.loop-event.parts in
    let count = c.args.count in
    let e = c.in-Some.event in
    let len = sym parts.ok.0 ∙ c.loop-event.invariant.0 in
    let falls = c.part_of-i.ensures.part ∙ ap (part_of count) (c.as_bytes.ensures.value ∙ c.source.ensures.value ∙ ap source_of c.event.ensures) in
    let within = subst (λ n. c.part_of-i.result < n) (sym len) c.part_of-i.ensures.below in (
      c.loop-event.invariant.0,
      λ i lt. moved (part_of count) parts.items e c.take_front.new.self c.args.events c.loop-event.events c.index_mut.result.now c.push.new.self c.part_of-i.result
          falls within c.index_mut.ensures.value c.in_ok-push.ensures.ok c.in-Some.ensures.front
          (λ k below. c.loop-event.invariant.1 k (subst (λ n. k < n) len below)) i (subst (λ n. i < n) (sym len) lt),
    )

pub returns-clause-parts : goal.returns-clause-parts
returns-clause-parts c i lt =
    let parts = c.loop-event.parts in
    let within = subst (λ n. i < n) (sym c.loop-event.invariant.0 ∙ parts.ok.0) lt in
    slice_get-get_or parts.items i [] within
    ∙ ap Some (none_left (part_of c.args.count) i (get_or parts.items i []) c.loop-event.events c.args.events (λ h. true≢false (sym (c.in_default.ensures.some.1 h))) (c.loop-event.invariant.1 i lt))
