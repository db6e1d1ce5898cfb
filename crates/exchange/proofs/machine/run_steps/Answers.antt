use Rattle.std.proofs.Common.{refl, sym, ◌∙◌, subst}
use Rattle.exchange.specs.Schedule.{FitsIn}
use Rattle.exchange.specs.Standing.{StandAtPlaces}
use Rattle.exchange.proofs.StandingLemmas.{fits_at, world_after-next}
use Rattle.exchange.proofs.machine.run_steps.Goals as goal

pub loop-done-init : goal.loop-done-init
loop-done-init c = record {
  stands = λ w s. s;
  sites = refl;
}

pub make_step-requires : goal.make_step-requires
make_step-requires c =
    subst (λ n. FitsIn n c.at.result.now) (sym c.loop-done.invariant.sites) (fits_at _ c.args.steps.now c.loop-done.done c.at.result.now c.requires c.at.ensures)

pub loop-done-preserved : goal.loop-done-preserved
loop-done-preserved c = record {
  stands = λ w s. subst (λ v. StandAtPlaces c.make_step.new.hosts.items v) (sym (world_after-next c.args.steps.now c.loop-done.done c.at.result.now w c.at.ensures)) (c.in_default.ensures.made _ (c.loop-done.invariant.stands w s));
  sites = c.make_step.ensures.sites ∙ c.loop-done.invariant.sites;
}
