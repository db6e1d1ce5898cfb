use Rattle.std.proofs.Common.{Result, Ok, Err, sym, subst}
use Rattle.std.specs.Result.{OnErr}
use Rattle.views.specs.Question.{MayWantMemory}
use Rattle.kept_views.specs.steps.Seen.{days_in}
use Rattle.kept_views.proofs.DayLemmas.{has_time, no_entry}
use Rattle.inbox.specs.Kept.{events}
use Rattle.inbox.specs.Shown.{shown}
use Rattle.kept_views.specs.Tables.{CountsDays, CountsKinds, EachHasRow, RowsAreOf}
use Rattle.kept_views.proofs.kept.Views.answer.Goals as goal

pub returns-in_ok-list_kinds-in-Kinds-clause-answer : goal.returns-in_ok-list_kinds-in-Kinds-clause-answer
returns-in_ok-list_kinds-in-Kinds-clause-answer c =
    c.in_ok-list_kinds-in-Kinds.ensures (shown (events c.args.inbox.now)) (subst (λ v. CountsKinds (shown (events c.args.inbox.now)) v.kinds) (sym c.self.view_is) c.requires.kinds)

pub returns-in_ok-list_days-in-Days-clause-answer : goal.returns-in_ok-list_days-in-Days-clause-answer
returns-in_ok-list_days-in-Days-clause-answer c =
    c.in_ok-list_days-in-Days.ensures.rows (shown (events c.args.inbox.now)) (subst (λ v. CountsDays (shown (events c.args.inbox.now)) v.days) (sym c.self.view_is) c.requires.days)

pub returns-in_ok-list_latest-in-Latest-clause-answer : goal.returns-in_ok-list_latest-in-Latest-clause-answer
returns-in_ok-list_latest-in-Latest-clause-answer c =
    c.in_ok-list_latest-in-Latest.ensures
    (subst (λ v. RowsAreOf c.args.inbox.now.arrivals (shown (events c.args.inbox.now)) v.entities) (sym c.self.view_is) c.requires.rows)
    (subst (λ v. EachHasRow (shown (events c.args.inbox.now)) v.entities) (sym c.self.view_is) c.requires.each)

wanted : {T E : Type 0} (r : Result T E) (P : Type 0) → P → OnErr r P
wanted (Ok t) P p = tt
wanted (Err e) P p = p

pub returns-in_err-list_days-in-Days-clause-rows : goal.returns-in_err-list_days-in-Days-clause-rows
returns-in_err-list_days-in-Days-clause-rows c =
    let E = events c.args.inbox.now in
    let counts = subst (λ v. CountsDays (shown E) v.days) (sym c.self.view_is) c.requires.days in
    wanted c.from_residual-in_err-list_days-in-Days.result _ (subst (λ q. MayWantMemory q E) (sym c.in-Days.is) (has_time (shown E) (days_in c.self.inside.days.entries) counts (λ none. c.in_err-list_days-in-Days.ensures.err (no_entry c.self.inside.days.entries none))))
