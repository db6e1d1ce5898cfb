use Rattle.std.proofs.Common.{rules, arith}
use Rattle.relay_fan.specs.steps.Slot.{IsEnded}
use Rattle.relay_fan.proofs.SlotLemmas.{below_more}
use Rattle.relay_fan.proofs.fan.desk.first_open.Goals as goal

pub loop-place-preserved : goal.loop-place-preserved
loop-place-preserved g c = below_more IsEnded c.args.slots.now.items c.loop-place.place c.index.result.now (search rules) c.index.ensures (c.in-Ended.field-0, c.in-Ended.is) c.loop-place.invariant

pub returns-clause-none : goal.returns-clause-none
returns-clause-none g c none k d low = c.loop-place.invariant k d (omega (arith, low))
