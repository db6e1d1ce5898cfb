use Rattle.std.proofs.Common.{ap, map, ◌++◌, ◌∙◌}
use Rattle.std.specs.Map.Iter.{deref_pair}
use Rattle.coverage.specs.steps.Entries.{sources_in}
use Rattle.coverage.proofs.EntriesLemmas.{split_all, listed_more}
use Rattle.coverage.proofs.numbers.Numbers.entries.Goals as goal

pub loop-source-init : goal.loop-source-init
loop-source-init c =
    ap (λ l. map deref_pair l ++ sources_in c.into_iter-source-iterator.result) c.in_ok-entries.ensures.items
    ∙ ap sources_in c.into_iter-source-iterator.ensures.into_iter_gives.0 ∙ c.self.view_is

pub loop-source-preserved : goal.loop-source-preserved
loop-source-preserved c =
    listed_more c.args.self.now _ _ _ _ c.in-Some.source.now _ c.loop-source.invariant (ap sources_in c.in-Some.ensures.steps) c.as_str.ensures.value c.in_ok-push.ensures.items

pub returns-clause-entries : goal.returns-clause-entries
returns-clause-entries c = split_all c.args.self.now _ _ c.loop-source.invariant (ap sources_in c.in-None.ensures.steps.0)
