use Rattle.std.proofs.Common.{◌≡◌, ◌+◌, [], ◌∷◌, ◌++◌, arith, sym, subst, take, take_all}
use Rattle.std.specs.List.{AllByRecursion}
use Rattle.attributes.specs.Fault.{IsEvent}
use Rattle.inbox.proofs.ReadLemmas.{take_next}
use Rattle.numbers.specs.Counts.{IsCountOf, Knows, KnowsOnly}
use Rattle.numbers.specs.Numbered.{AreEachNumbered, HaveNumbers}
use Rattle.numbers.specs.Numberer.{number, taken}
use Rattle.numbers.proofs.BatchLemmas.{all_more, bare_in, numbered_more}
use Rattle.numbers.proofs.CountLemmas.{known_step, knows_at, only_step, turn_step}
use Rattle.numbers.proofs.turn.number_all.Goals as goal

pub loop-i-preserved : goal.loop-i-preserved
loop-i-preserved c =
    let L = c.args.events.now in
    let i = c.loop-i.i in
    let e = c.at-event.result.now in
    let X = c.loop-i.batch in
    let x = c.in_ok-numbered.field-0 in
    let event : IsEvent e = (bare_in L i e c.requires c.at-event.ensures).event in (
      subst (AllByRecursion IsEvent) (sym c.in_ok-push.ensures.ok) (all_more X x c.loop-i.invariant.0 c.in_ok-numbered.ensures.event),
      subst (λ Y. AreEachNumbered (take (i + 1) L) Y) (sym c.in_ok-push.ensures.ok) (subst (λ K. AreEachNumbered K (X ++ x ∷ [])) (sym (take_next L i e c.at-event.ensures)) (numbered_more (take i L) X e x c.loop-i.invariant.1 (c.in_ok-number.number, c.in_ok-numbered.ensures.numbered))),
      λ base A h each.
          let was = c.loop-i.invariant.2 base A h each in
          let its = c.loop-i.invariant.3 base A h each e event (knows_at (Knows base A c.args.known.now) L i e each c.at-event.ensures) in
          let got = c.in_ok-number.ensures.counts base _ was.1 its in
          let it = turn_step base A L X i c.in_ok-number.number e x c.number_of.new.counted c.at-event.ensures was.0 got.0 got.1 c.in_ok-numbered.ensures.numbered in
          subst (λ Y. HaveNumbers (number base (taken A (take (i + 1) L))) (take (i + 1) L) Y × IsCountOf base (taken A (take (i + 1) L)) c.number_of.new.counted) (sym c.in_ok-push.ensures.ok) it,
      λ base A h each.
          let was = c.loop-i.invariant.2 base A h each in
          let before = c.loop-i.invariant.3 base A h each in
          let its = before e event (knows_at (Knows base A c.args.known.now) L i e each c.at-event.ensures) in
          known_step base A L i e c.args.known.now c.loop-i.known c.number_of.new.known c.at-event.ensures before (c.in_ok-number.ensures.known base _ was.1 its),
      λ base A h each first.
          let was = c.loop-i.invariant.2 base A h each in
          let its = c.loop-i.invariant.3 base A h each e event (knows_at (Knows base A c.args.known.now) L i e each c.at-event.ensures) in
          only_step base A L i e c.number_of.new.known c.at-event.ensures (c.in_ok-number.ensures.only base _ was.1 its (c.loop-i.invariant.4 base A h each first)),
    )

pub returns-clause-numbers : goal.returns-clause-numbers
returns-clause-numbers c base A h each =
    let L = c.args.events.now in
    let all : take c.loop-i.i L ≡ L = take_all c.loop-i.i L (omega arith) in
    subst (λ P. HaveNumbers (number base (taken A P)) P c.loop-i.batch × IsCountOf base (taken A P) c.loop-i.counted) all (c.loop-i.invariant.2 base A h each)

pub returns-clause-only : goal.returns-clause-only
returns-clause-only c base A h each first =
    let L = c.args.events.now in
    let all : take c.loop-i.i L ≡ L = take_all c.loop-i.i L (omega arith) in
    subst (λ P. KnowsOnly base (taken A P) c.loop-i.known) all (c.loop-i.invariant.4 base A h each first)
