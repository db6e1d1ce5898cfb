use Rattle.std.proofs.Common.{◌≡◌, ◌≤◌, ◌∷◌, length, true, string_bytes, ◌∙◌, subst, arith}
use Rattle.event_json.specs.Reading.{max_input}
use Rattle.event_json.specs.BatchText.{batch_text}
use Rattle.event_json.specs.steps.Joined.{joined}
use Rattle.event_json.proofs.WriteLemmas.{write_step, events_step, all_written, all_events}
use Rattle.event_json.proofs.write.write_list.Goals as goal

pub loop-i-preserved : goal.loop-i-preserved
loop-i-preserved g c =
    let es = g.L.EventList.list c.args.list.now in
    let i = c.loop-i.i in
    let e = c.event_at.result.now in (
      write_step es i e _ _ (91 ∷ joined true es) c.event_at.ensures c.in_ok-append_event.ensures.text c.loop-i.invariant.0,
      events_step es i e c.event_at.ensures c.append_event.ensures.event c.loop-i.invariant.1,
    )

pub returns-clause-text : goal.returns-clause-text
returns-clause-text g c =
    let es = g.L.EventList.list c.args.list.now in
    let i = c.loop-i.i in
    let past : length es ≤ i = omega (arith, c.count-i-end.ensures, c.loop-i-test.false) in
    c.from_string.ensures ∙ all_written es i (string_bytes c.loop-i.out) (string_bytes c.push_str-2.new.self) past c.loop-i.invariant.0 c.in_ok-push_str-2.ensures.bytes

pub returns-clause-reads_back : goal.returns-clause-reads_back
returns-clause-reads_back g c = λ fits.
    let es = g.L.EventList.list c.args.list.now in
    let i = c.loop-i.i in
    let past : length es ≤ i = omega (arith, c.count-i-end.ensures, c.loop-i-test.false) in
    let is : string_bytes c.push_str-2.new.self ≡ batch_text es =
    all_written es i (string_bytes c.loop-i.out) (string_bytes c.push_str-2.new.self) past c.loop-i.invariant.0 c.in_ok-push_str-2.ensures.bytes in
    let text : c.from_string.result ≡ batch_text es = c.from_string.ensures ∙ is in
    let short : length (batch_text es) ≤ max_input = subst (λ t. length t ≤ max_input) text fits in
    rw text (c.batch_texts_read_back.ensures es (all_events es i past c.loop-i.invariant.1) short)
