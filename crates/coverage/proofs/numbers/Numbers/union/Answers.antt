use Rattle.std.proofs.Common.{ap, refl, subst, ◌||◌, ◌&&◌, ◌∙◌, bytes_eq, string_bytes}
use Rattle.coverage.specs.Intervals.{holds}
use Rattle.coverage.specs.Numbers.{AreListed, holds_in}
use Rattle.coverage.specs.steps.Entries.{sources_in}
use Rattle.coverage.proofs.EntriesLemmas.{IsEntry-along, is_next}
use Rattle.coverage.proofs.UnionLemmas.{united_none, united_more, united_all}
use Rattle.coverage.proofs.numbers.Numbers.union.Goals as goal

pub loop-source-init : goal.loop-source-init
loop-source-init c =
    united_none c.args.self.now c.args.other.now _ _ (ap sources_in c.into_iter-source-iterator.ensures.into_iter_gives.0 ∙ c.other.view_is) c.in_ok-both.ensures.copied c.copy.ensures.summary

pub add_all-requires : goal.add_all-requires
add_all-requires c =
    let source = string_bytes c.in-Some.source.now in
    let numbers = c.in-Some.numbers.now in
    let united = c.loop-source.invariant in
    let next = is_next c.args.other.now united.done _ (source, numbers) _ (subst AreListed c.other.view_is c.other.invariant) united.split (ap sources_in c.in-Some.ensures.steps) in
    IsEntry-along _ source _ numbers c.as_str.ensures.value refl next.is_entry

pub loop-source-preserved : goal.loop-source-preserved
loop-source-preserved c =
    let source = string_bytes c.in-Some.source.now in
    let numbers = c.in-Some.numbers.now in
    united_more c.args.self.now c.args.other.now _ _ _ (source, numbers) _ (subst AreListed c.other.view_is c.other.invariant) c.loop-source.invariant (ap sources_in c.in-Some.ensures.steps)
    c.add_all.ensures.summary
    (λ s n. c.in_ok-add_all.ensures.members s n ∙ ap (λ k. holds_in c.loop-source.both s n || (bytes_eq s k && holds numbers n)) c.as_str.ensures.value)

pub returns-clause-members : goal.returns-clause-members
returns-clause-members c =
    united_all c.args.self.now c.args.other.now _ c.loop-source.both c.loop-source.invariant (ap sources_in c.in-None.ensures.steps.0)
