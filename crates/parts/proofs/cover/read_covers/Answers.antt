use Rattle.std.proofs.Common.{◌≡◌, [], length, map, take, refl, sym, ap, ◌∙◌, subst, arith}
use Rattle.std.proofs.Math.Seq.{take-length}
use Rattle.parts.specs.Combined.{AreCovers}
use Rattle.parts.proofs.CoverLemmas.{none_read, read_more}
use Rattle.parts.proofs.cover.read_covers.Goals as goal

pub loop-i-init : goal.loop-i-init
loop-i-init c = subst (AreCovers []) (sym c.new-summaries.ensures.items) (record { first = tt; written = refl })

pub loop-i-preserved : goal.loop-i-preserved
loop-i-preserved c =
    read_more c.args.covers.now c.loop-i.i _ c.in_ok-summary.field-0 c.in-Some.summary c.loop-i.summaries.items c.push.new.self.items c.loop-i-test.true c.in-Some.is
    c.in_ok-summary.ensures.some c.in_ok-push-in-Some.ensures.items c.loop-i.invariant

pub returns-in-None-clause-refused : goal.returns-in-None-clause-refused
returns-in-None-clause-refused c = none_read c.args.covers.now c.loop-i.i _ c.in_ok-summary.field-0 c.loop-i-test.true c.in-None.is c.in_ok-summary.ensures.none

pub returns-clause-read : goal.returns-clause-read
returns-clause-read c =
    let covers = c.args.covers.now in
    let e : c.loop-i.i ≡ length covers = omega (arith, c.loop-i-test.false, c.loop-i.auto.i-end) in
    subst (λ l. AreCovers (map (λ t. t.now) l) c.loop-i.summaries.items) (ap (λ n. take n covers) e ∙ take-length covers) c.loop-i.invariant
