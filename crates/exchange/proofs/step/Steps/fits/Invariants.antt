use Rattle.std.proofs.Common.{take}
use Rattle.std.specs.List.{AllByRecursion}
use Rattle.exchange.specs.Schedule.{FitsIn}
use Rattle.exchange.proofs.step.Steps.fits.Given as goal

abbrev pub invariant-loop-step : goal.invariant-loop-step
invariant-loop-step l = AllByRecursion (FitsIn l.sites) (take l.step-index l.step-items)
