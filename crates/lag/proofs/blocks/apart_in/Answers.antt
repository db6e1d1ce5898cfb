use Rattle.std.proofs.Common.{◌<◌, ◌∙◌, ℕ, Bool, arith, sym}
use Rattle.lag.specs.Blocks.{is_apart}
use Rattle.lag.proofs.BlockLemmas.{span_counts, span_passes}
use Rattle.lag.proofs.blocks.apart_in.Goals as goal
use Rattle.lag.proofs.blocks.apart_in.Goals.{then-is_apart, else-is_apart}

pub loop-block-preserved : goal.loop-block-preserved
loop-block-preserved c =
    let f : ℕ → Bool = is_apart c.args.first.now c.args.second.now c.args.alone c.args.source.now in
    let k = c.loop-block.block in
    let inv = c.loop-block.invariant in
    let inside : k < c.args.to = c.loop-block-test.true in
    elim c.if-is_apart.branch [
      | then-is_apart w ↦ (
          let step = span_counts f k c.args.to inside (sym c.is_apart.ensures ∙ w.if-is_apart.true) in
          (omega (arith, inv.0), omega (arith, inv.0, inv.1, w.count-is), omega (arith, inv.2, step, w.count-is)))
      | else-is_apart w ↦ (
          let step = span_passes f k c.args.to inside (sym c.is_apart.ensures ∙ w.if-is_apart.false) in
          (omega (arith, inv.0), omega (arith, inv.0, inv.1, w.count-is), omega (arith, inv.2, step, w.count-is)))
    ]
