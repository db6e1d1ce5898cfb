use Rattle.std.proofs.Common.{[], refl, sym, subst, rules, arith}
use Rattle.feeds.specs.steps.Tally.{ComesBehindOthers}
use Rattle.feeds.proofs.CauseLemmas.{early_if}
use Rattle.feeds.proofs.GateLemmas.{gated_by, gated_count, gated_on}
use Rattle.feeds.proofs.PullLemmas.{moved, moved_last, moved_not, replied_page}
use Rattle.feeds.proofs.pulling.move_page.Goals as goal

pub returns-in-Err-clause-moves : goal.returns-in-Err-clause-moves
returns-in-Err-clause-moves g c = let p = c.in-Err.ensures.page in
    (p.0, [], p.1, g.met.E.Desk.stays _, moved_not _ _ _ _ _ p.2 c.in-Err.ensures.same, (λ k. absurd (cc)), (λ k. refl), gated_count _ _ _ _ _ p.3 (omega arith))

pub returns-then-is_empty-clause-moves : goal.returns-then-is_empty-clause-moves
returns-then-is_empty-clause-moves g c = let p = c.in-Ok.ensures.page in
    (p.0, [], p.1, g.met.E.Desk.stays _, moved_last _ _ _ _ _ p.2 (search rules) c.in-Ok.ensures.same, (λ k. absurd (cc)), (λ k. refl), gated_count _ _ _ _ _ (gated_by p.3 (λ n. absurd (cc)) (λ s. absurd (cc))) (omega arith))

pub returns-clause-moves : goal.returns-clause-moves
returns-clause-moves g c = let p = c.in-Ok.ensures.page in let f = c.flush.ensures.flushed in (
  p.0,
  f.0,
  p.1,
  f.1,
  moved _ _ _ _ _ _ _ _ _ p.2 c.in-Ok.ensures.same f.2,
  (λ none. subst (λ z. ComesBehindOthers (g.E.Desk.arrivals c.args.to.now) z (g.E.Desk.arrivals c.flush.new.desk)) (sym (replied_page _ _ _ _ p.2)) (c.flush.ensures.gains none)),
  (λ done. absurd (early_if _ _ _ done f.2.stop)),
  gated_on _ _ _ _ _ _ _ p.3 refl f.3,
)
