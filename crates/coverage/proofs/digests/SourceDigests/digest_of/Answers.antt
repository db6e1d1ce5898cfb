use Rattle.std.proofs.Common.{None, Some, ap, sym, ◌∙◌}
use Rattle.coverage.specs.BlockDigests.{block_digest}
use Rattle.coverage.proofs.BlockLemmas.{blocks_at}
use Rattle.coverage.proofs.digests.SourceDigests.digest_of.Goals as goal

pub returns-in-Some : goal.returns-in-Some
returns-in-Some c =
    c.get-in-Some.ensures.value
    ∙ ap (λ bs. block_digest bs c.args.k) (sym (blocks_at _ c.args.self.now c.args.source.now (Some c.in-Some.digests.now) c.self.view_is c.in-Some.ensures.value))

pub returns-in-None : goal.returns-in-None
returns-in-None c = ap (λ bs. block_digest bs c.args.k) (sym (blocks_at _ c.args.self.now c.args.source.now None c.self.view_is c.in-None.ensures.value))
