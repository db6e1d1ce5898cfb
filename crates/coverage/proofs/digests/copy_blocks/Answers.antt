use Rattle.std.proofs.Common.{ap, append-nil, sym, ◌++◌, ◌∙◌}
use Rattle.coverage.proofs.BlockLemmas.{copied_block}
use Rattle.coverage.proofs.digests.copy_blocks.Goals as goal

pub loop-k-init : goal.loop-k-init
loop-k-init c = ap (λ l. l ++ c.into_iter-k-iterator.result) c.new-own.ensures.empty ∙ c.into_iter-k-iterator.ensures.into_iter_gives.0

pub loop-k-preserved : goal.loop-k-preserved
loop-k-preserved c =
    copied_block c.args.blocks.now.entries c.loop-k.own.entries _ _ c.in-Some.k.now c.in-Some.digest.now _ c.into_iter-k-iterator.ensures.into_iter_gives.5
    c.loop-k.invariant c.in-Some.ensures.steps c.in_ok-insert.ensures.entries

pub returns : goal.returns
returns c = sym (append-nil c.loop-k.own.entries) ∙ ap (λ l. c.loop-k.own.entries ++ l) (sym c.in-None.ensures.steps.0) ∙ c.loop-k.invariant
