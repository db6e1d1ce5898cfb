use Rattle.std.proofs.Common.{◌++◌, [], refl, sym, ap, ◌∙◌, subst, inl, inr, arith, length-append}
use Rattle.std.specs.Prelude.{Some}
use Rattle.feeds.specs.Pull.{Pulled}
use Rattle.feeds.specs.Report.{EndsEarly}
use Rattle.feeds.proofs.GateLemmas.{gated_all, gated_count, gated_on}
use Rattle.feeds.proofs.PullLemmas.{early_sum, unbegun}
use Rattle.feeds.proofs.pulling.pull.Goals as goal

pub returns-in-Ok : goal.returns-in-Ok
returns-in-Ok g c = let s = c.in-Ok.ensures in let p = c.pull_pages-ended.ensures.pulled in (
  p.0,
  s.0 ++ p.1,
  p.2,
  g.met.E.Desk.goes_on _ _ _ _ _ s.1 p.3,
  inr (c.in-Ok.peer, p.1, ap (λ z. z ++ p.1) s.2, subst (λ r. Pulled c.in-Ok.peer p.0 p.1 r) (sym c.report.ensures) p.4),
  (λ d. p.5 (sym (ap (λ z. z.ended) c.report.ensures) ∙ d)),
  gated_all _ _ _ _ (gated_count _ _ _ _ _ (gated_on _ _ _ _ _ _ _ s.3 refl p.6) (omega (arith, length-append s.0 p.1))) (ap (λ z. Some z.ended) (sym c.report.ensures)),
)

pub returns-in-Err : goal.returns-in-Err
returns-in-Err g c = let s = c.in-Err.ensures in (
  [],
  s.0,
  g.met.D.Desk.stays _,
  s.1,
  inl (unbegun s.0 _ _ _ s.2 c.start-tally.ensures c.report-in-Err.ensures),
  (λ d. absurd (subst EndsEarly (sym (ap (λ z. z.ended) c.report-in-Err.ensures) ∙ d) (early_sum s.0 _ s.2))),
  gated_all _ _ _ _ (gated_count _ _ _ _ _ s.3 (omega arith)) (ap (λ z. Some z.ended) (sym c.report-in-Err.ensures)),
)
