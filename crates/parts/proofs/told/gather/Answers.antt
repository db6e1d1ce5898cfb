use Rattle.std.proofs.Common.{◌≡◌, length, map, take, ap, ◌∙◌, subst, arith}
use Rattle.std.proofs.Math.Seq.{take-length}
use Rattle.inbox.specs.Kept.{events}
use Rattle.inbox.specs.Sets.{set_of}
use Rattle.parts.specs.Told.{AreGathered}
use Rattle.parts.proofs.ToldLemmas.{gathered_next, none_at, none_gathered}
use Rattle.parts.proofs.told.gather.Goals as goal

pub loop-i-init : goal.loop-i-init
loop-i-init c = none_gathered c.args.query _ _ (ap set_of c.empty-all.ensures) c.new-covers.ensures.items

pub loop-i-preserved : goal.loop-i-preserved
loop-i-preserved c =
    gathered_next c.text_tells_events.ensures c.args.query c.args.texts.now c.loop-i.i _ c.in_ok-inbox.field-0 c.in-Some.inbox c.loop-i.all c.merge.new.self c.loop-i.covers.items c.push.new.self.items
    c.in_ok-cover_of.field-0 c.loop-i-test.true c.in-Some.is c.in_ok-inbox.ensures.some c.loop-i.invariant c.in_ok-cover_of.ensures c.in-Ok.ensures.set c.in_ok-push.ensures.items

pub returns-in_default-clause-refused : goal.returns-in_default-clause-refused
returns-in_default-clause-refused c =
    none_at c.args.query c.args.texts.now c.loop-i.i _ c.in_ok-inbox.field-0 c.loop-i-test.true c.in_default.is c.in_ok-inbox.ensures.none

pub returns-clause-ok : goal.returns-clause-ok
returns-clause-ok c =
    let texts = c.args.texts.now in
    let e : c.loop-i.i ≡ length texts = omega (arith, c.loop-i-test.false, c.loop-i.auto.i-end) in
    subst (λ l. AreGathered c.args.query (map (λ t. t.now) l) (events c.loop-i.all) c.loop-i.covers.items) (ap (λ n. take n texts) e ∙ take-length texts) c.loop-i.invariant
