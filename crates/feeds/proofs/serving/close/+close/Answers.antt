use Rattle.std.proofs.Common.{◌≡◌, ◌≤◌, ◌<◌, ◌++◌, ◌∷◌, ◌∙◌, [], ap, arith, length, length-append, rules, subst}
use Rattle.std.specs.Vec.{vec_capacity}
use Rattle.turn_lock.specs.History.{made_by}
use Rattle.feeds.specs.steps.Serve.{AllAt, reports_in, answers_in}
use Rattle.feeds.proofs.ServeLemmas.{all_at_last, answers_few, answers_more, closes, reports_few, reports_more}
use Rattle.feeds.proofs.serving.close.+close.Goals as goal

pub close_all-served-requires : goal.close_all-served-requires
close_all-served-requires t c =
    let at : AllAt c.args.shared.now c.pop.new.self.items = (all_at_last _ _ _ (subst (λ l. AllAt c.args.shared.now l) c.in-Some.ensures.items c.requires.each)).0 in
    let own : c.meet.new.me.table ≡ c.args.shared.now = c.meet.ensures.met.same.table ∙ c.requires.own in
    let less : length c.pop.new.self.items < length c.args.all.items = omega (arith, ap length c.in-Some.ensures.items, length-append c.pop.new.self.items (c.in-Some.last ∷ [])) in
    let reports : length c.pop.new.self.items ≤ vec_capacity c.args.served.reports = omega (arith, less, c.requires.room.0) in
    let asked : length c.pop.new.self.items ≤ vec_capacity c.args.served.asked = omega (arith, less, c.requires.room.1) in
    search (rules, at, own, less, reports, asked)

pub settle-requires-clause-own : goal.settle-requires-clause-own
settle-requires-clause-own t c = (
  c.close_all-served.ensures.same.0.table ∙ (c.meet.ensures.met.same.table ∙ c.requires.own),
  ap (λ z. z.table) c.meet.ensures.same ∙ (all_at_last _ _ _ (subst (λ l. AllAt c.args.shared.now l) c.in-Some.ensures.items c.requires.each)).1,
)

pub add-requires : goal.add-requires
add-requires t c =
    let e = c.close_all-served.ensures in
    let r = c.close_all-served.result in
    let more = ap length c.in-Some.ensures.items ∙ length-append c.pop.new.self.items (c.in-Some.last ∷ []) in (
      omega (arith, ap length e.reports, reports_few c.pop.new.self.items, r.reports.ok.0, e.room.0, c.requires.room.0, more),
      omega (arith, ap length e.asked, answers_few c.pop.new.self.items, r.asked.ok.0, e.room.1, c.requires.room.1, more),
    )

pub returns-clause-told : goal.returns-clause-told
returns-clause-told t c =
    let own = subst (λ z. made_by z.number c.settle.new.pass.seen ≡ z.mine) c.meet.ensures.same c.settle.ensures.told in
    closes _ _ _ _ _ _ c.in-Some.ensures.items c.meet.ensures.met.all_others c.close_all-served.ensures.seen (ap (λ z. z.seen) c.settle.ensures.same.0) c.close_all-served.ensures.told own

pub returns-clause-reports : goal.returns-clause-reports
returns-clause-reports t c =
    let old = c.close_all-served.result.reports.items in
    reports_more _ c.in-Some.last _ _ _ c.in-Some.ensures.items c.close_all-served.ensures.reports (c.add.ensures.reports ∙ ap (λ o. old ++ reports_in (o ∷ [])) c.settle.ensures.same.1)

pub returns-clause-asked : goal.returns-clause-asked
returns-clause-asked t c =
    let old = c.close_all-served.result.asked.items in
    answers_more _ c.in-Some.last _ _ _ c.in-Some.ensures.items c.close_all-served.ensures.asked (c.add.ensures.asked ∙ ap (λ o. old ++ answers_in (o ∷ [])) c.settle.ensures.same.1)
