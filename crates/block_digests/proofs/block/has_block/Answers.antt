use Rattle.std.proofs.Common.{◌∙◌, ◌||◌, ap, ap₂, sym}
use Rattle.std.proofs.lemmas.List.Folds.{list_any_at, list_any_more}
use Rattle.std.proofs.lemmas.Option.{get_or_from_slice_get, slice_get_within}
use Rattle.block_digests.specs.Block as spec
use Rattle.block_digests.proofs.block.has_block.Goals as goal

pub returns-then-is_in_block : goal.returns-then-is_in_block
returns-then-is_in_block c =
    let E = c.args.events.now in
    let i = c.loop-i.i in
    let e = c.at.result.now in
    sym (list_any_at (spec.is_in_block c.args.source.now c.args.k) E i e (slice_get_within E i e c.at.ensures)
    (ap (spec.is_in_block c.args.source.now c.args.k) (get_or_from_slice_get E i e e c.at.ensures) ∙ sym c.if-is_in_block.ensures))

pub loop-i-preserved : goal.loop-i-preserved
loop-i-preserved c =
    let E = c.args.events.now in
    let i = c.loop-i.i in
    let e = c.at.result.now in
    list_any_more (spec.is_in_block c.args.source.now c.args.k) E i e (slice_get_within E i e c.at.ensures)
    ∙ ap₂ (λ a b. a || b) c.loop-i.invariant (ap (spec.is_in_block c.args.source.now c.args.k) (get_or_from_slice_get E i e e c.at.ensures) ∙ sym c.if-is_in_block.ensures)
