use Rattle.std.proofs.Common.{◌∙◌, subst, sym}
use Rattle.std.specs.List.{AllByRecursion}
use Rattle.std.proofs.lemmas.List.{length-replicate}
use Rattle.exchange.specs.Place.{nothing}
use Rattle.exchange.specs.Schedule.{FitsIn}
use Rattle.exchange.proofs.StandingLemmas.{stands_length}
use Rattle.exchange.proofs.machine.run.Goals as goal

-- so many sites as were asked for stand
pub run-requires : goal.run-requires
run-requires c =
    subst (λ n. AllByRecursion (FitsIn n) c.args.steps.now) (sym (stands_length _ _ c.in-Ok.ensures.ok ∙ length-replicate c.args.sites nothing)) c.requires
