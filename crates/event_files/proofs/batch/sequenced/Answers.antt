use Rattle.std.proofs.Common.{◌∙◌}
use Rattle.event_files.proofs.FileLemmas.{events_more, numbered_more, unnumbered_here, whole_more}
use Rattle.event_files.proofs.batch.sequenced.Goals as goal

pub loop-event-preserved : goal.loop-event-preserved
loop-event-preserved c =
    let done = c.loop-event.numbered.items in
    let rest = c.loop-event.event-iterator.rest.items in
    let left = c.next.new.self.rest.items in
    let e = c.in-Some.event in
    let next = c.in-Some.ensures.steps.0 in record {
      whole = whole_more done rest left c.args.events e next c.loop-event.invariant.whole c.loop-event.invariant.numbered c.push.new.self.items c.in-Ok.event c.in_ok-push-in-Ok.ensures.items c.in-Ok.ensures.ok;
      numbered = numbered_more done rest left c.args.events e next c.loop-event.invariant.whole c.loop-event.invariant.numbered c.push.new.self.items c.in-Ok.event c.in-Ok.ensures.numbered.0 c.in_ok-push-in-Ok.ensures.items c.in-Ok.ensures.ok c.in-Ok.ensures.numbered.1;
      events = events_more done rest left c.args.events e next c.loop-event.invariant.whole c.loop-event.invariant.numbered c.push.new.self.items c.in-Ok.event c.in_ok-push-in-Ok.ensures.items c.loop-event.invariant.events c.in-Ok.ensures.event;
    }

pub returns-in-Err-clause-fault : goal.returns-in-Err-clause-fault
returns-in-Err-clause-fault c = λ _.
    unnumbered_here c.loop-event.numbered.items c.loop-event.event-iterator.rest.items c.next.new.self.rest.items c.args.events c.in-Some.event c.in-Some.ensures.steps.0 c.loop-event.invariant.whole c.loop-event.invariant.numbered
    c.len-index.result c.in-Err.unsequenced.fault (c.len-index.ensures ∙ c.loop-event.numbered.ok.0) c.in-Err.ensures.refused c.in-Err.ensures.fault
