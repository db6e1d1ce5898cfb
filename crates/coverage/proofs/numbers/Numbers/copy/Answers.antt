use Rattle.std.proofs.Common.{ap, subst, sym, ◌++◌, ◌∙◌, string_bytes}
use Rattle.coverage.specs.Numbers.{AreListed}
use Rattle.coverage.specs.steps.Entries.{sources_in}
use Rattle.coverage.specs.steps.Places.{EndsBefore}
use Rattle.coverage.proofs.EntriesLemmas.{IsEntry-along, copied_more, is_next, split_all}
use Rattle.coverage.proofs.numbers.Numbers.copy.Goals as goal

pub loop-source-init : goal.loop-source-init
loop-source-init c =
    ap (λ l. l ++ sources_in c.into_iter-source-iterator.result) c.empty-own.ensures.entries
    ∙ ap sources_in c.into_iter-source-iterator.ensures.into_iter_gives.0 ∙ c.self.view_is

pub append-requires-clause-entry : goal.append-requires-clause-entry
append-requires-clause-entry c =
    let source = string_bytes c.in-Some.source.now in
    let numbers = c.in-Some.numbers.now in
    let next = is_next c.args.self.now c.loop-source.own _ (source, numbers) _ (subst AreListed c.self.view_is c.self.invariant) c.loop-source.invariant (ap sources_in c.in-Some.ensures.steps) in
    IsEntry-along _ source _ numbers c.as_str.ensures.value c.in_ok-copy.ensures.copied next.is_entry

pub append-requires-clause-last : goal.append-requires-clause-last
append-requires-clause-last c =
    let source = string_bytes c.in-Some.source.now in
    let numbers = c.in-Some.numbers.now in
    let next = is_next c.args.self.now c.loop-source.own _ (source, numbers) _ (subst AreListed c.self.view_is c.self.invariant) c.loop-source.invariant (ap sources_in c.in-Some.ensures.steps) in
    subst (EndsBefore c.loop-source.own) (sym c.as_str.ensures.value) next.before

pub loop-source-preserved : goal.loop-source-preserved
loop-source-preserved c =
    copied_more c.args.self.now c.loop-source.own _ _ _ (string_bytes c.in-Some.source.now) _ c.in-Some.numbers.now _ c.loop-source.invariant (ap sources_in c.in-Some.ensures.steps)
    c.as_str.ensures.value c.in_ok-copy.ensures.copied c.in_ok-append.ensures

pub returns-clause-copied : goal.returns-clause-copied
returns-clause-copied c = split_all c.args.self.now c.loop-source.own _ c.loop-source.invariant (ap sources_in c.in-None.ensures.steps.0)
