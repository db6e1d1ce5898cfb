use Rattle.std.proofs.Common.{◌≡◌, ◌∙◌, ◌+◌, [], ◌∷◌, ◌++◌, ap, arith, length, length-append, sym, subst, take, take_all}
use Rattle.std.specs.List.{AllByRecursion}
use Rattle.attributes.specs.Fault.{IsEvent}
use Rattle.inbox.proofs.ReadLemmas.{take_next}
use Rattle.inbox_table.specs.Calls.{joined}
use Rattle.numbers.specs.Counts.{IsCountOf, KeepsKnown, Knows, KnowsOnly}
use Rattle.numbers.specs.Numberer.{taken}
use Rattle.number_table.specs.Each.{AnswersEach, AreNumberedEach}
use Rattle.number_table.proofs.EachLemmas.{all_more, bare_at, each_more, numbered_more, taken_more}
use Rattle.number_table.proofs.LookLemmas.{joined_at, keeps_each}
use Rattle.number_table.proofs.lists.number_lists.Goals as goal

pub number_all-requires : goal.number_all-requires
number_all-requires c = bare_at c.args.lists.now c.loop-i.i c.at.result.now c.requires c.at.ensures

pub loop-i-preserved : goal.loop-i-preserved
loop-i-preserved c =
    let lists = c.args.lists.now in
    let i = c.loop-i.i in
    let L = c.at.result.now in
    let X = c.loop-i.answers in
    let M = c.in_ok-batch.batch in
    let more : take (i + 1) lists ≡ take i lists ++ L ∷ [] = take_next lists i L c.at.ensures in (
      subst (AllByRecursion (AllByRecursion IsEvent)) (sym c.in_ok-push.ensures.ok) (all_more X M c.loop-i.invariant.0 c.in_ok-batch.ensures.events),
      (let e : length c.push.new.self ≡ i + 1 = ap length c.in_ok-push.ensures.ok ∙ length-append X (M ∷ []) ∙ ap (λ n. n + 1) c.loop-i.invariant.1 in e),
      subst (λ Y. AreNumberedEach (take (i + 1) lists) Y) (sym c.in_ok-push.ensures.ok) (subst (λ K. AreNumberedEach K (X ++ M ∷ [])) (sym more) (numbered_more (take i lists) X L M c.loop-i.invariant.2 c.in_ok-batch.ensures.each)),
      λ base A h each.
          let was = c.loop-i.invariant.3 base A h each in
          let T = taken A (joined (take i lists)) in
          let its = keeps_each base A T L c.args.known.now c.loop-i.known was.2 (bare_at lists i L c.requires c.at.ensures) (joined_at (Knows base A c.args.known.now) lists i L each c.at.ensures) in
          let got = c.in_ok-batch.ensures.numbers base T was.1 its in
          let then = c.in_ok-batch.ensures.known base T was.1 its in
          let all : taken A (joined (take (i + 1) lists)) ≡ taken T L = ap (λ K. taken A (joined K)) more ∙ taken_more A (take i lists) L in (
            subst (λ Y. AnswersEach base A (take (i + 1) lists) Y) (sym c.in_ok-push.ensures.ok) (subst (λ K. AnswersEach base A K (X ++ M ∷ [])) (sym more) (each_more base A (take i lists) X L M was.0 got.0)),
            subst (λ B. IsCountOf base B c.number_all.new.counted) (sym all) got.1,
            subst (λ B. KeepsKnown base A B c.args.known.now c.number_all.new.known) (sym all) (λ e is g. then e is (was.2 e is g)),
          ),
      λ base A h each first.
          let was = c.loop-i.invariant.3 base A h each in
          let T = taken A (joined (take i lists)) in
          let its = keeps_each base A T L c.args.known.now c.loop-i.known was.2 (bare_at lists i L c.requires c.at.ensures) (joined_at (Knows base A c.args.known.now) lists i L each c.at.ensures) in
          let all : taken A (joined (take (i + 1) lists)) ≡ taken T L = ap (λ K. taken A (joined K)) more ∙ taken_more A (take i lists) L in
          subst (λ B. KnowsOnly base B c.number_all.new.known) (sym all) (c.in_ok-batch.ensures.only base T was.1 its (c.loop-i.invariant.4 base A h each first)),
    )

pub returns-clause-numbers : goal.returns-clause-numbers
returns-clause-numbers c base A h each =
    let lists = c.args.lists.now in
    let all : take c.loop-i.i lists ≡ lists = take_all c.loop-i.i lists (omega arith) in
    let was = c.loop-i.invariant.3 base A h each in
    subst (λ P. AnswersEach base A P c.loop-i.answers × IsCountOf base (taken A (joined P)) c.loop-i.counted) all (was.0, was.1)

pub returns-clause-only : goal.returns-clause-only
returns-clause-only c base A h each first =
    let lists = c.args.lists.now in
    let all : take c.loop-i.i lists ≡ lists = take_all c.loop-i.i lists (omega arith) in
    subst (λ P. KnowsOnly base (taken A (joined P)) c.loop-i.known) all (c.loop-i.invariant.4 base A h each first)
