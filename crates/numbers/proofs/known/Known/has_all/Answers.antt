use Rattle.std.proofs.Common.{◌∙◌, ap, is_some, refl, subst, sym, take_all, true≢false, arith}
use Rattle.std.specs.List.{AllByRecursion}
use Rattle.attributes.specs.Members.{value_at}
use Rattle.numbers.specs.Counts.{HasText}
use Rattle.numbers.proofs.CountLemmas.{knows_at}
use Rattle.numbers.proofs.KnownLemmas.{texts_more}
use Rattle.numbers.proofs.known.Known.has_all.Goals as goal

pub loop-i-preserved : goal.loop-i-preserved
loop-i-preserved c =
    let K = c.args.self.now in
    let e = c.at.result.now in
    let has : HasText K e = ap is_some (ap (λ t. value_at t K) (sym c.text.ensures.text) ∙ sym c.in-Some.ensures) in
    texts_more K c.args.events.now c.loop-i.i e c.at.ensures c.loop-i.invariant has

pub returns-in_default : goal.returns-in_default
returns-in_default c =
    let K = c.args.self.now in
    let e = c.at.result.now in (
      λ is. absurd (true≢false (sym is)),
      λ all. absurd (true≢false (sym (knows_at (HasText K) c.args.events.now c.loop-i.i e all c.at.ensures) ∙ ap is_some (ap (λ t. value_at t K) (sym c.text.ensures.text) ∙ sym c.in_default.ensures))),
    )

pub returns : goal.returns
returns c =
    let K = c.args.self.now in
    (λ is. subst (AllByRecursion (HasText K)) (take_all c.loop-i.i c.args.events.now (omega arith)) c.loop-i.invariant, λ all. refl)
