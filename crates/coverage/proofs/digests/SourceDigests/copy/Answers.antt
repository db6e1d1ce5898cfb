use Rattle.std.proofs.Common.{ap, append-nil, subst, sym, ◌++◌, ◌∙◌}
use Rattle.std.specs.List.Sorted.{IsStrictlySortedBy}
use Rattle.std.specs.Map.{keys_of}
use Rattle.coverage.specs.Numbers.{byte_cmp}
use Rattle.coverage.specs.steps.Blocks.{blocks_in}
use Rattle.coverage.proofs.BlockLemmas.{copied_source, sorted_blocks}
use Rattle.coverage.proofs.digests.SourceDigests.copy.Goals as goal

pub loop-source-init : goal.loop-source-init
loop-source-init c =
    ap (λ l. blocks_in l ++ blocks_in c.into_iter-source-iterator.result) c.new-sources.ensures.empty
    ∙ ap blocks_in c.into_iter-source-iterator.ensures.into_iter_gives.0 ∙ c.self.view_is

pub loop-source-preserved-in_ok-insert : goal.loop-source-preserved-in_ok-insert
loop-source-preserved-in_ok-insert c =
    copied_source c.args.self.now c.loop-source.sources.entries _ _ c.in_ok-key.key c.in-Some.source.now _ c.in-Some.digests.now _
    (subst (λ l. IsStrictlySortedBy byte_cmp (keys_of l)) c.self.view_is (sorted_blocks _ c.into_iter-source-iterator.ensures.into_iter_gives.5))
    c.loop-source.invariant (ap blocks_in c.in-Some.ensures.steps) (c.in_ok-key.ensures.ok ∙ c.as_str.ensures.value) c.in_ok-copy_blocks.ensures c.in_ok-insert.ensures.entries

pub loop-source-preserved : goal.loop-source-preserved
loop-source-preserved c =
    copied_source c.args.self.now c.loop-source.sources.entries _ _ c.in_ok-key.key c.in-Some.source.now _ c.in-Some.digests.now _
    (subst (λ l. IsStrictlySortedBy byte_cmp (keys_of l)) c.self.view_is (sorted_blocks _ c.into_iter-source-iterator.ensures.into_iter_gives.5))
    c.loop-source.invariant (ap blocks_in c.in-Some.ensures.steps) (c.in_ok-key.ensures.ok ∙ c.as_str.ensures.value) c.in_ok-copy_blocks.ensures c.in_ok-insert.ensures.entries

pub returns-clause-copied : goal.returns-clause-copied
returns-clause-copied c =
    sym (append-nil (blocks_in c.loop-source.sources.entries)) ∙ ap (λ l. blocks_in c.loop-source.sources.entries ++ blocks_in l) (sym c.in-None.ensures.steps.0) ∙ c.loop-source.invariant
