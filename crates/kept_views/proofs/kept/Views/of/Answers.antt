use Rattle.std.proofs.Common.{Result, Ok, Err, ap, arith, length}
use Rattle.std.specs.Result.{OnErr}
use Rattle.inbox.specs.Kept.{events}
use Rattle.kept_views.proofs.AmongLemmas.{are_of_all, are_of_none}
use Rattle.kept_views.proofs.kept.Views.of.Goals as goal

pub loop-i-init : goal.loop-i-init
loop-i-init c = (are_of_none c.args.inbox.now.arrivals (events c.args.inbox.now) c.with_hasher-views.result c.with_hasher-views.ensures.stands, c.with_hasher-views.ensures.states)

pub returns-clause-stands : goal.returns-clause-stands
returns-clause-stands c =
    are_of_all c.args.inbox.now.arrivals c.loop-i.i c.loop-i.views (omega (arith, c.len-i-end.ensures, c.loop-i-test.false)) c.loop-i.invariant.0

wanted : {T E : Type 0} (r : Result T E) (P : Type 0) → P → OnErr r P
wanted (Ok t) P p = tt
wanted (Err e) P p = p

pub returns-in_err-admit_at-clause-err : goal.returns-in_err-admit_at-clause-err
returns-in_err-admit_at-clause-err c =
    wanted c.from_residual.result _ (λ none. omega (arith, c.len-i-end.ensures, c.loop-i-test.true, ap length none))
