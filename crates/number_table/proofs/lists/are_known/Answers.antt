use Rattle.std.proofs.Common.{◌∙◌, arith, refl, subst, sym, take_all, true≢false}
use Rattle.std.specs.List.{AllByRecursion}
use Rattle.inbox_table.specs.Calls.{joined}
use Rattle.numbers.specs.Counts.{HasText}
use Rattle.number_table.proofs.LookLemmas.{joined_at, texts_list}
use Rattle.number_table.proofs.lists.are_known.Goals as goal

pub loop-i-preserved : goal.loop-i-preserved
loop-i-preserved c = texts_list c.args.known.now c.args.lists.now c.loop-i.i c.at.result.now c.at.ensures c.loop-i.invariant (c.has_all.ensures.0 c.if-not-has_all.false)

pub returns-then-not-has_all : goal.returns-then-not-has_all
returns-then-not-has_all c = (
  λ is. absurd (true≢false (sym is)),
  λ all. absurd (true≢false (sym (c.has_all.ensures.1 (joined_at (HasText c.args.known.now) c.args.lists.now c.loop-i.i c.at.result.now all c.at.ensures)) ∙ c.if-not-has_all.true)),
)

pub returns : goal.returns
returns c =
    let K = c.args.known.now in
    (λ is. subst (λ lists. AllByRecursion (HasText K) (joined lists)) (take_all c.loop-i.i c.args.lists.now (omega arith)) c.loop-i.invariant, λ all. refl)
