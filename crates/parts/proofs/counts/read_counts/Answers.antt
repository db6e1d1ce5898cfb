use Rattle.std.proofs.Common.{◌≡◌, ◌∙◌, ap, arith, length, map, subst, take}
use Rattle.std.proofs.Math.Seq.{take-length}
use Rattle.parts.specs.Lines.{AreJoined}
use Rattle.parts.proofs.CoverLemmas.{joined_next, none_there}
use Rattle.parts.proofs.counts.read_counts.Goals as goal

pub loop-i-init : goal.loop-i-init
loop-i-init g c = c.empty-all.ensures

pub loop-i-preserved : goal.loop-i-preserved
loop-i-preserved g c =
    joined_next g.R.CountRow.tells c.args.answers.now c.loop-i.i _ c.in_ok-rows.field-0 c.in-Some.rows c.loop-i.all c.append.new.all c.loop-i-test.true c.in-Some.is
    c.in_ok-rows.ensures.some c.loop-i.invariant c.in_ok-append-in-Some.ensures

pub returns-in-None-clause-err : goal.returns-in-None-clause-err
returns-in-None-clause-err g c = none_there c.args.answers.now c.loop-i.i _ c.in_ok-rows.field-0 c.loop-i-test.true c.in-None.is c.in_ok-rows.ensures.none

pub returns-clause-ok : goal.returns-clause-ok
returns-clause-ok g c =
    let answers = c.args.answers.now in
    let e : c.loop-i.i ≡ length answers = omega (arith, c.loop-i-test.false, c.loop-i.auto.i-end) in
    subst (λ l. AreJoined g.R.CountRow.tells (map (λ t. t.now) l) c.loop-i.all) (ap (λ n. take n answers) e ∙ take-length answers) c.loop-i.invariant
