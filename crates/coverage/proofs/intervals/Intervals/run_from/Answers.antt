use Rattle.std.proofs.Common.{ℕ, List, Option, Some, None, sym, subst}
use Rattle.std.specs.Prelude.{MatchOption}
use Rattle.coverage.specs.Intervals.{AllStartBefore, Interval, IsCanonical, IsNextSpan}
use Rattle.coverage.specs.steps.Spans.{IsRunFrom, NoneFrom}
use Rattle.coverage.proofs.RunLemmas.{EndBefore, end_last, end_none, none_from, run_behind, run_within}
use Rattle.coverage.proofs.intervals.Intervals.run_from.Goals as goal
use Rattle.coverage.proofs.intervals.Intervals.run_from.Goals.{in_default-via-in-Some+else-from-last, in_default-via-in_default}

pub returns-in-Some : goal.returns-in-Some
returns-in-Some c =
    subst (λ l. IsRunFrom l c.args.from (c.args.from, c.in-Some.last)) c.self.view_is
    (run_within c.self.inside.starts.entries c.args.from (c.in-Some.field-0-0, c.in-Some.last) c.in-Some.ensures c.if-from-last.true)

none_or_run : (ps : List Interval) (from : ℕ) (o : Option Interval) → IsCanonical ps → EndBefore ps from → MatchOption o (AllStartBefore ps from) (IsNextSpan ps from) → MatchOption o (NoneFrom ps from) (IsRunFrom ps from)
none_or_run ps from None h end m = none_from ps from h end m
none_or_run ps from (Some p) h end m = run_behind ps from p h end m

pub returns-in_default : goal.returns-in_default
returns-in_default c =
    let ps = c.self.inside.starts.entries in
    let end : EndBefore ps c.args.from = elim c.in_default.branch [
      | in_default-via-in-Some+else-from-last w ↦ end_last ps c.args.from (w.in-Some.field-0-0, w.in-Some.last) c.self.invariant w.in-Some.ensures w.if-from-last.false
      | in_default-via-in_default w ↦ end_none ps c.args.from w.in_default.ensures
    ] in
    subst (λ l. MatchOption c.next_span.result (NoneFrom l c.args.from) (IsRunFrom l c.args.from)) c.self.view_is
    (none_or_run ps c.args.from c.next_span.result c.self.invariant end (subst (λ l. MatchOption c.next_span.result (AllStartBefore l c.args.from) (IsNextSpan l c.args.from)) (sym c.self.view_is) c.next_span.ensures))
