use Rattle.block_digests.proofs.IndexLemmas.{empty_has, empty_kept}
use Rattle.block_digests.proofs.blocks.Blocks.empty.Goals as goal

pub returns-clause-kept : goal.returns-clause-kept
returns-clause-kept c = empty_kept c.new.result c.new-2.result.items c.new.ensures.empty

pub returns-clause-digests : goal.returns-clause-digests
returns-clause-digests c = empty_has c.new.result c.new-2.result.items c.new.ensures.empty
