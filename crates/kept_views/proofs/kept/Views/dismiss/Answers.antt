use Rattle.std.proofs.Common.{List, ℕ, arith, refl, ap, subst, ◌∙◌}
use Rattle.attributes.specs.Event.{kind_of}
use Rattle.views.specs.Tally.{kind_and_day}
use Rattle.kept_views.specs.Tables.{KindDay, is_kind_day}
use Rattle.kept_views.specs.steps.Moves.{CountsChange, is_own, one_less}
use Rattle.kept_views.specs.steps.Seen.{days_in}
use Rattle.kept_views.proofs.TallyLemmas.{count_changes, count_seen}
use Rattle.kept_views.proofs.kept.Views.dismiss.Goals as goal

pub lower-requires : goal.lower-requires
lower-requires c =
    let text = c.kind.ensures.value ∙ ap kind_of c.event.ensures in
    record { counted = omega (arith, c.requires.counted, count_seen c.self.inside.kinds.entries c.self.inside.kinds.entries c.args.self.now.kinds _ (kind_of c.args.event.now) (ap (λ v. v.kinds) c.self.view_is) refl text) }

pub returns-clause-goes : goal.returns-clause-goes
returns-clause-goes c =
    let text = c.kind.ensures.value ∙ ap kind_of c.event.ensures in
    record {
      kinds = count_changes one_less c.self.inside.kinds.entries c.self.inside.kinds.entries c.lower.new.tally.entries c.args.self.now.kinds _ (kind_of c.args.event.now) (ap (λ v. v.kinds) c.self.view_is) refl text c.lower.ensures.counts;
      days =
          subst (λ (l : List (KindDay × ℕ)). CountsChange is_kind_day (is_own (kind_and_day c.args.event.now)) one_less l (days_in c.lower_day.new.tally.entries)) (ap (λ v. v.days) c.self.view_is)
          (subst (λ o. CountsChange is_kind_day (is_own o) one_less (days_in c.self.inside.days.entries) (days_in c.lower_day.new.tally.entries)) c.requires.own c.lower_day.ensures.counts);
      entities = rw (← c.self.view_is) c.clear.ensures.rows;
    }
