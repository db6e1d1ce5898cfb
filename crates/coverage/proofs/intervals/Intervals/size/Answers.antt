use Rattle.std.proofs.Common.{ap, sym, ◌∙◌, arith}
use Rattle.coverage.specs.Intervals.{rises_from, size_of}
use Rattle.coverage.proofs.MapLemmas.{rises_from-any, size_step}
use Rattle.coverage.proofs.intervals.Intervals.size.Goals as goal

pub loop-first-init : goal.loop-first-init
loop-first-init c =
    let same = c.into_iter-first-iterator.ensures.into_iter_gives.0 ∙ c.self.view_is in record {
      counted = omega (arith, ap size_of same);
      rises = ap (rises_from 0) same ∙ rises_from-any 1 _ (ap (rises_from 1) (sym c.self.view_is) ∙ c.self.invariant);
    }

pub overflow_sub-size : goal.overflow_sub-size
overflow_sub-size c = (size_step c.args.self.now _ _ _ c.loop-first.size (ap (rises_from 1) (sym c.self.view_is) ∙ c.self.invariant) c.loop-first.invariant.counted c.loop-first.invariant.rises c.in-Some.ensures.steps).ordered

pub overflow_add-size : goal.overflow_add-size
overflow_add-size c =
    let step = size_step c.args.self.now _ _ _ c.loop-first.size (ap (rises_from 1) (sym c.self.view_is) ∙ c.self.invariant) c.loop-first.invariant.counted c.loop-first.invariant.rises c.in-Some.ensures.steps in
    let bound = step.bound in omega arith

pub overflow_add-size-in-loop-first : goal.overflow_add-size-in-loop-first
overflow_add-size-in-loop-first c =
    let step = size_step c.args.self.now _ _ _ c.loop-first.size (ap (rises_from 1) (sym c.self.view_is) ∙ c.self.invariant) c.loop-first.invariant.counted c.loop-first.invariant.rises c.in-Some.ensures.steps in
    let bound = step.bound in omega arith

pub loop-first-preserved : goal.loop-first-preserved
loop-first-preserved c =
    let step = size_step c.args.self.now _ _ _ c.loop-first.size (ap (rises_from 1) (sym c.self.view_is) ∙ c.self.invariant) c.loop-first.invariant.counted c.loop-first.invariant.rises c.in-Some.ensures.steps in record {
      counted = step.counted;
      rises = step.rises;
    }
