use Rattle.std.proofs.Common.{ap, ap₂, ◌∙◌}
use Rattle.std.specs.BTreeMap.{insert_entry}
use Rattle.coverage.specs.Numbers.{byte_cmp}
use Rattle.coverage.specs.steps.Blocks.{blocks_in}
use Rattle.coverage.proofs.BlockLemmas.{blocks_in-insert_entry}
use Rattle.coverage.proofs.digests.SourceDigests.put.Goals as goal

pub returns : goal.returns
returns c =
    ap blocks_in c.in_ok-insert.ensures.entries ∙ blocks_in-insert_entry c.self.inside.sources.entries c.in_ok-key.key c.args.blocks
    ∙ ap₂ (λ l k. insert_entry byte_cmp l k c.args.blocks.entries) c.self.view_is c.in_ok-key.ensures.ok
