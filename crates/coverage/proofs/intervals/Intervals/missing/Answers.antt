use Rattle.std.proofs.Common.{ℕ, Result, Ok, Err, sym, ap, ◌∙◌}
use Rattle.std.specs.Result.{OnErr}
use Rattle.coverage.specs.Intervals.{IsMissing, rises_from}
use Rattle.coverage.proofs.GapsLemmas.{greatest_positive, missing_there}
use Rattle.coverage.proofs.intervals.Intervals.missing.Goals as goal

wanted : {T E : Type 0} (r : Result T E) (P : Type 0) → P → OnErr r P
wanted (Ok t) P p = tt
wanted (Err e) P p = p

pub returns-in_err-own-clause-err : goal.returns-in_err-own-clause-err
returns-in_err-own-clause-err c =
    let ps = c.args.self.now in
    let low = greatest_positive ps c.in-Some.top (ap (rises_from 1) (sym c.self.view_is) ∙ c.self.invariant) c.in-Some.ensures.value in
    wanted c.from_residual.result ((n : ℕ) × IsMissing ps n) (missing_there ps c.in-Some.top c.in-Some.ensures.value (c.holds_span.ensures.lacks c.if-holds_span.false low))

pub returns-in_err-missing-clause-err : goal.returns-in_err-missing-clause-err
returns-in_err-missing-clause-err c =
    let ps = c.args.self.now in
    let low = greatest_positive ps c.in-Some.top (ap (rises_from 1) (sym c.self.view_is) ∙ c.self.invariant) c.in-Some.ensures.value in
    wanted c.from_residual-in_err-missing.result ((n : ℕ) × IsMissing ps n) (missing_there ps c.in-Some.top c.in-Some.ensures.value (c.holds_span.ensures.lacks c.if-holds_span.false low))

pub returns-clause-err : goal.returns-clause-err
returns-clause-err c =
    let ps = c.args.self.now in
    let low = greatest_positive ps c.in-Some.top (ap (rises_from 1) (sym c.self.view_is) ∙ c.self.invariant) c.in-Some.ensures.value in
    wanted c.of_pairs.result ((n : ℕ) × IsMissing ps n) (missing_there ps c.in-Some.top c.in-Some.ensures.value (c.holds_span.ensures.lacks c.if-holds_span.false low))
