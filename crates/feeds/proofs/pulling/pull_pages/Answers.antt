use Rattle.std.proofs.Common.{◌++◌, [], ap, refl, ◌∙◌, rules, arith}
use Rattle.std.specs.Prelude.{Some}
use Rattle.feeds.proofs.GateLemmas.{gated_both, gated_by, gated_none, gated_told, gated_went}
use Rattle.feeds.proofs.PullLemmas.{counts_few, holds_more, holds_replied, holds_still, pull_short, pull_stops, pulling_start, pulls_on}
use Rattle.feeds.proofs.pulling.pull_pages.Goals as goal

pub loop-page-init : goal.loop-page-init
loop-page-init g c = ([], [], g.met.D.Desk.stays _, g.met.E.Desk.stays _, pulling_start _ _ c.requires.start, tt, search rules, gated_none _ _ _ (ap (λ z. z.calls) c.requires.start) (λ s. absurd (cc)), omega (arith, ap (λ z. z.calls) c.requires.start))

pub move_page-requires-clause-room : goal.move_page-requires-clause-room
move_page-requires-clause-room g c = let i = c.loop-page.invariant in omega (arith, i.6, c.loop-page-test.true)

pub move_page-requires-clause-few : goal.move_page-requires-clause-few
move_page-requires-clause-few g c = let i = c.loop-page.invariant in omega (arith, i.8, c.loop-page-test.true)

pub loop-page-preserved : goal.loop-page-preserved
loop-page-preserved g c = let i = c.loop-page.invariant in let v = c.move_page.ensures.moves in (
  i.0 ++ v.0,
  i.1 ++ v.1,
  g.met.D.Desk.goes_on _ _ _ _ _ i.2 v.2,
  g.met.E.Desk.goes_on _ _ _ _ _ i.3 v.3,
  pulls_on _ _ _ _ _ _ _ _ c.in-None.is i.4 v.4,
  holds_replied _ i.0 v.0 (holds_more c.sets_are_members.ensures.is_found _ _ _ _ i.5 (v.5 c.in-None.is)),
  omega (arith, i.6, counts_few _ _ _ _ _ _ v.4),
  gated_went _ _ _ _ (gated_both _ _ _ i.0 i.1 v.0 v.1 _ _ refl i.7 v.7) c.in-None.is,
  omega (arith, i.8, c.move_page.ensures.calls),
)

pub returns-in-Some-clause-pulled : goal.returns-in-Some-clause-pulled
returns-in-Some-clause-pulled g c = let i = c.loop-page.invariant in let v = c.move_page.ensures.moves in (
  i.0 ++ v.0,
  i.1 ++ v.1,
  g.met.D.Desk.goes_on _ _ _ _ _ i.2 v.2,
  g.met.E.Desk.goes_on _ _ _ _ _ i.3 v.3,
  pull_stops _ _ _ _ _ _ _ _ _ c.in-Some.is i.4 v.4,
  (λ d. let done = c.in-Some.is ∙ ap Some d in holds_still _ _ i.0 v.0 i.5 (v.6 done) (v.4.done done).1),
  gated_told _ _ _ _ (gated_both _ _ _ i.0 i.1 v.0 v.1 _ _ refl i.7 v.7) c.in-Some.is,
)

pub returns-in-Some-clause-few : goal.returns-in-Some-clause-few
returns-in-Some-clause-few g c = let i = c.loop-page.invariant in let v = c.move_page.ensures.moves in omega (arith, i.6, counts_few _ _ _ _ _ _ v.4, v.4.counted.refused, i.4.refused, c.loop-page-test.true)

pub returns-clause-pulled : goal.returns-clause-pulled
returns-clause-pulled g c = let i = c.loop-page.invariant in (i.0, i.1, i.2, i.3, pull_short _ _ _ _ i.4, (λ d. absurd (cc)), gated_by i.7 (λ n. absurd (cc)) (λ s. absurd (cc)))

pub returns-clause-few : goal.returns-clause-few
returns-clause-few g c = let i = c.loop-page.invariant in omega (arith, i.6, i.4.refused, c.loop-page.auto._page-end)
