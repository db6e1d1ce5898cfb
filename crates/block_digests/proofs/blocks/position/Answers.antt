use Rattle.std.proofs.Common.{ap, sym, ◌∙◌}
use Rattle.std.specs.Option.{option_and_then}
use Rattle.std.specs.BTreeMap.{get}
use Rattle.std.specs.Ordering.{nat_cmp}
use Rattle.block_digests.proofs.IndexLemmas.{position_is}
use Rattle.block_digests.proofs.blocks.position.Goals as goal

pub returns-in-Some : goal.returns-in-Some
returns-in-Some c =
    c.copied.ensures ∙ c.get-in-Some.ensures.value
    ∙ sym (position_is c.args.index.now c.args.source.now c.args.k ∙ ap (option_and_then (λ m. get nat_cmp m c.args.k)) (sym c.in-Some.ensures.value))

pub returns-in-None : goal.returns-in-None
returns-in-None c =
    sym (position_is c.args.index.now c.args.source.now c.args.k ∙ ap (option_and_then (λ m. get nat_cmp m c.args.k)) (sym c.in-None.ensures.value))
