use Rattle.std.proofs.Common.{true≢false, refl, sym, ap, subst, List, ℕ, [], ◌∷◌, ◌++◌, ◌∙◌, string_bytes}
use Rattle.std.specs.Str.{IsUtf8}
use Rattle.std.specs.Option.{IfSome}
use Rattle.serde_json.specs.View.{view, members_view}
use Rattle.coverage.specs.Intervals.{IsCanonical}
use Rattle.coverage.specs.steps.Places.{EndsBefore}
use Rattle.coverage.proofs.EntriesLemmas.{IsEntry-along}
use Rattle.coverage.proofs.ReadLemmas.{entries_none, entries_more, entries_no_numbers, entries_no_next, entries_all, IsCompleteFor}
use Rattle.coverage.proofs.numbers.read.read_entries.Goals as goal

pub loop-name-init : goal.loop-name-init
loop-name-init c = entries_none _ _ _ c.empty-summary.ensures.entries (ap members_view c.into_iter-name-iterator.ensures.into_iter_gives.0)

pub returns-in_default-clause-complete : goal.returns-in_default-clause-complete
returns-in_default-clause-complete c =
    let left = ap members_view c.in-Some.ensures.steps in
    let complete = subst (IsCompleteFor (view c.in-Some.list)) c.in_default.is c.in_ok-numbers.ensures.complete in
    entries_no_numbers _ _ _ (string_bytes c.in-Some.name) (view c.in-Some.list) _ c.loop-name.invariant left complete

pub returns-then-not-may_end_with-clause-complete : goal.returns-then-not-may_end_with-clause-complete
returns-then-not-may_end_with-clause-complete c =
    let left = ap members_view c.in-Some.ensures.steps in
    let complete = subst (IsCompleteFor (view c.in-Some.list)) c.in-Some-2.is c.in_ok-numbers.ensures.complete in
    let key = c.from_string-source.ensures in
    entries_no_next _ _ _ (string_bytes c.in-Some.name) (view c.in-Some.list) _ (c.from_string-source.result, c.in-Some-2.numbers) c.loop-name.invariant left complete key
    (λ p. true≢false (sym (c.if-not-may_end_with.ensures.1 (p.0, p.1, p.2))))

pub append-requires-clause-entry : goal.append-requires-clause-entry
append-requires-clause-entry c =
    let next = c.if-not-may_end_with.ensures.0 refl in
    let canonical = subst (λ o. IfSome o IsCanonical) c.in-Some-2.is c.in_ok-numbers.ensures.canonical in
    IsEntry-along _ c.from_string-source.result _ c.in-Some-2.numbers c.as_str.ensures refl (subst IsUtf8 c.as_str.ensures c.as_str.utf8, next.0, next.1, canonical)

pub append-requires-clause-last : goal.append-requires-clause-last
append-requires-clause-last c =
    let next = c.if-not-may_end_with.ensures.0 refl in
    subst (EndsBefore c.loop-name.summary) (sym c.as_str.ensures) next.2

pub loop-name-preserved : goal.loop-name-preserved
loop-name-preserved c =
    let left = ap members_view c.in-Some.ensures.steps in
    let complete = subst (IsCompleteFor (view c.in-Some.list)) c.in-Some-2.is c.in_ok-numbers.ensures.complete in
    let key = c.from_string-source.ensures in
    let next = c.if-not-may_end_with.ensures.0 refl in
    let canonical = subst (λ o. IfSome o IsCanonical) c.in-Some-2.is c.in_ok-numbers.ensures.canonical in
    entries_more _ _ _ _ (string_bytes c.in-Some.name) (view c.in-Some.list) _ (c.from_string-source.result, c.in-Some-2.numbers) c.loop-name.invariant left complete key
    (subst IsUtf8 c.as_str.ensures c.as_str.utf8, next.0, next.1, canonical)
    next.2 (c.in_ok-append.ensures ∙ ap (λ (k : List ℕ). c.loop-name.summary ++ (k, c.in-Some-2.numbers) ∷ []) c.as_str.ensures)

pub returns-clause-complete : goal.returns-clause-complete
returns-clause-complete c = entries_all _ _ _ c.loop-name.invariant (ap members_view c.in-None.ensures.steps.0)
