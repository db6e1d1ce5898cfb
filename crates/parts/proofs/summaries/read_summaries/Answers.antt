use Rattle.std.proofs.Common.{◌≡◌, length, map, take, ap, ◌∙◌, subst, arith}
use Rattle.std.proofs.Math.Seq.{take-length}
use Rattle.parts.specs.Summaries.{AreSummaryLines, IsNoSummary}
use Rattle.parts.proofs.CoverLemmas.{none_there}
use Rattle.parts.proofs.SummaryLemmas.{no_lines, read_more}
use Rattle.parts.proofs.summaries.read_summaries.Goals as goal

pub loop-i-init : goal.loop-i-init
loop-i-init c = no_lines _ c.new-summaries.ensures.items

pub loop-i-preserved : goal.loop-i-preserved
loop-i-preserved c =
    read_more c.args.texts.now c.loop-i.i _ c.in_ok-summary.field-0 c.in-Some.summary c.loop-i.summaries.items c.push.new.self.items c.loop-i-test.true c.in-Some.is
    c.in_ok-summary.ensures.some c.in_ok-push-in-Some.ensures.items c.loop-i.invariant

pub returns-in-None-clause-refused : goal.returns-in-None-clause-refused
returns-in-None-clause-refused c = none_there {P = IsNoSummary} c.args.texts.now c.loop-i.i _ c.in_ok-summary.field-0 c.loop-i-test.true c.in-None.is c.in_ok-summary.ensures.none

pub returns-clause-read : goal.returns-clause-read
returns-clause-read c =
    let texts = c.args.texts.now in
    let e : c.loop-i.i ≡ length texts = omega (arith, c.loop-i-test.false, c.loop-i.auto.i-end) in
    subst (λ l. AreSummaryLines (map (λ t. t.now) l) c.loop-i.summaries.items) (ap (λ n. take n texts) e ∙ take-length texts) c.loop-i.invariant
