use Rattle.std.proofs.Common.{ℕ, ◌<◌, get_or}
use Rattle.relay_fan.specs.steps.Slot.{IsEnded}
use Rattle.relay_fan.specs.declared.fan.slot.Slot.{Slot}
use Rattle.relay_fan.proofs.fan.desk.first_open.Given as goal

abbrev pub invariant-loop-place : goal.invariant-loop-place
invariant-loop-place g l = (k : ℕ) (d : Slot g.row.R.Denot g.row.G.Denot) → k < l.place → IsEnded (get_or l.slots.items k d)
