use Rattle.std.proofs.Common.{◌≡◌, ◌+◌, length, eqb, ap, sym, arith}
use Rattle.attributes.specs.Event.{text}
use Rattle.event_json.specs.BatchText.{batch_text}
use Rattle.event_json.specs.steps.Joined.{separated}
use Rattle.event_json.proofs.WriteLemmas.{length-batch_text, length_step, length-separated_first, length-separated_later}
use Rattle.event_json.proofs.write.text_len.Goals as goal
use Rattle.event_json.proofs.write.text_len.Goals.{then-i-gt0+in_ok-len-2, else-i-gt0}

pub loop-i-init : goal.loop-i-init
loop-i-init g c = sym (length-batch_text (g.L.EventList.list c.args.list.now))

pub loop-i-preserved : goal.loop-i-preserved
loop-i-preserved g c =
    let es = g.L.EventList.list c.args.list.now in
    let i = c.loop-i.i in
    let e = c.event_at.result.now in
    let own : length c.text.result.now ≡ length (text e) = ap length c.text.ensures.text in
    let longer : c.if-i-gt0.len ≡ c.loop-i.len + length (separated (eqb i 0) (text e)) =
    elim c.if-i-gt0.branch [
      | then-i-gt0+in_ok-len-2 w ↦ omega (arith, own, c.in_ok-len.ensures.1, w.len-is, w.in_ok-len-2.ensures.1, length-separated_later i (text e) w.if-i-gt0.true)
      | else-i-gt0 w ↦ omega (arith, own, c.in_ok-len.ensures.1, w.len-is, length-separated_first i (text e) w.if-i-gt0.false)
    ] in
    length_step es i e c.loop-i.len c.if-i-gt0.len (length (batch_text es)) c.event_at.ensures longer c.loop-i.invariant
