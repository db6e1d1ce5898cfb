use Rattle.std.proofs.Common.{◌≡◌, List, ℕ, arith, ap, subst, ◌∙◌}
use Rattle.kept_views.proofs.TallyLemmas.{count_changes, count_seen}
use Rattle.attributes.specs.Event.{kind_of}
use Rattle.views.specs.Tally.{kind_and_day}
use Rattle.kept_views.specs.Tables.{KindDay, is_kind_day}
use Rattle.kept_views.specs.steps.Moves.{CountsChange, day_count_in, is_own, one_more}
use Rattle.kept_views.specs.steps.Seen.{days_in}
use Rattle.kept_views.proofs.kept.Views.admit.Goals as goal

pub raise-requires-clause-fits : goal.raise-requires-clause-fits
raise-requires-clause-fits c =
    let text = c.in_ok-kind.ensures.ok ∙ c.kind.ensures.value ∙ ap kind_of c.event.ensures in
    omega (arith, c.requires.fits, count_seen c.self.inside.kinds.entries c.reserve.new.self.entries c.args.self.now.kinds _ (kind_of c.args.event.now) (ap (λ v. v.kinds) c.self.view_is) c.in_ok-reserve.ensures.entries text)

pub raise_day-requires-clause-fits : goal.raise_day-requires-clause-fits
raise_day-requires-clause-fits c = λ k.
    let view : days_in c.self.inside.days.entries ≡ c.args.self.now.days = ap (λ v. v.days) c.self.view_is in
    let same : days_in c.reserve-2.new.self.entries ≡ c.args.self.now.days = ap days_in c.in_ok-reserve-2.ensures.entries ∙ view in
    omega (arith, c.requires.days_fit k, ap (λ (l : List (KindDay × ℕ)). day_count_in l k) same)

pub returns-clause-comes : goal.returns-clause-comes
returns-clause-comes c =
    let text = c.in_ok-kind.ensures.ok ∙ c.kind.ensures.value ∙ ap kind_of c.event.ensures in
    let view : days_in c.self.inside.days.entries ≡ c.args.self.now.days = ap (λ v. v.days) c.self.view_is in
    let same : days_in c.reserve-2.new.self.entries ≡ c.args.self.now.days = ap days_in c.in_ok-reserve-2.ensures.entries ∙ view in
    record {
      kinds = count_changes one_more c.self.inside.kinds.entries c.reserve.new.self.entries c.raise.new.tally.entries c.args.self.now.kinds _ (kind_of c.args.event.now) (ap (λ v. v.kinds) c.self.view_is) c.in_ok-reserve.ensures.entries text c.raise.ensures.counts;
      days =
          subst (λ (l : List (KindDay × ℕ)). CountsChange is_kind_day (is_own (kind_and_day c.args.event.now)) one_more l (days_in c.raise_day.new.tally.entries)) same
          (subst (λ o. CountsChange is_kind_day (is_own o) one_more (days_in c.reserve-2.new.self.entries) (days_in c.raise_day.new.tally.entries)) c.in_ok-day.ensures c.raise_day.ensures.counts);
      entities = rw (← c.in_ok-slot.ensures, ← c.self.view_is) c.in_ok-bring.ensures.ok;
    }
