-- The length so far, and that of the rest, is that of the whole.
use Rattle.std.proofs.Common.{◌≡◌, ◌+◌, length, drop, eqb}
use Rattle.event_json.specs.BatchText.{batch_text}
use Rattle.event_json.specs.steps.Joined.{joined}
use Rattle.event_json.proofs.write.text_len.Given as goal

abbrev pub invariant-loop-i : goal.invariant-loop-i
invariant-loop-i g l =
    l.len + length (joined (eqb l.i 0) (drop l.i (g.L.EventList.list l.list))) ≡ length (batch_text (g.L.EventList.list l.list))
