use Rattle.std.proofs.Common.{◌≡◌, drop}
use Rattle.numbers.specs.Numbered.{AreBare}
use Rattle.numbers.specs.Refusal.{refusal_from}
use Rattle.numbers.proofs.batch.refusal.Given as goal

abbrev pub invariant-loop-i : goal.invariant-loop-i
invariant-loop-i l = (refusal_from 0 l.events ≡ refusal_from l.i (drop l.i l.events)) × (AreBare (drop l.i l.events) → AreBare l.events)
