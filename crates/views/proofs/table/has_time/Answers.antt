use Rattle.std.proofs.Common.{◌<◌, ◌∙◌, arith, sym, ap, subst, filter, take, take_all, length}
use Rattle.std.specs.Prelude.{filter_map}
use Rattle.inbox.specs.Kept.{events}
use Rattle.inbox.specs.Shown.{is_shown}
use Rattle.views.specs.Tally.{day_cmp, kind_and_day, tally}
use Rattle.views.proofs.StepLemmas.{item_at}
use Rattle.views.proofs.TimeLemmas.{no_time_more, time_there}
use Rattle.views.proofs.table.has_time.Goals as goal

pub returns-then-is_timed-clause-some : goal.returns-then-is_timed-clause-some
returns-then-is_timed-clause-some c = λ _.
    let E = events c.args.inbox.now in
    let here = item_at E c.loop-i.i (subst (λ n. c.loop-i.i < n) c.len-i-end.ensures c.loop-i-test.true) in
    time_there E c.loop-i.i here.0 here.1 (sym (c.is_timed.ensures here.0 here.1) ∙ c.if-is_timed.true)

pub loop-i-preserved : goal.loop-i-preserved
loop-i-preserved c =
    let E = events c.args.inbox.now in
    let here = item_at E c.loop-i.i (subst (λ n. c.loop-i.i < n) c.len-i-end.ensures c.loop-i-test.true) in
    no_time_more E c.loop-i.i here.0 here.1 (sym (c.is_timed.ensures here.0 here.1) ∙ c.if-is_timed.false) c.loop-i.invariant

pub returns-clause-none : goal.returns-clause-none
returns-clause-none c = λ _.
    let E = events c.args.inbox.now in
    ap (λ l. tally day_cmp (filter_map kind_and_day (filter (is_shown E) l))) (sym (take_all c.loop-i.i E (omega (arith, c.len-i-end.ensures, c.loop-i-test.false))))
    ∙ ap (tally day_cmp) c.loop-i.invariant
