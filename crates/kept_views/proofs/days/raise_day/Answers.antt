use Rattle.std.proofs.Common.{◌≡◌, ◌+◌, ◌∙◌, ap, sym, subst, Some, arith}
use Rattle.std.specs.Map.{lookup}
use Rattle.std.specs.Option.{option_map, unwrap_or}
use Rattle.kept_views.specs.Tables.{is_kind_day}
use Rattle.kept_views.specs.steps.Moves.{CountsChange, is_own, one_more}
use Rattle.kept_views.specs.steps.Seen.{day_in, days_in}
use Rattle.kept_views.proofs.DayLemmas.{at_day, day_changes, day_count_seen}
use Rattle.kept_views.proofs.TallyLemmas.{on_ok}
use Rattle.kept_views.proofs.days.raise_day.Goals as goal

pub overflow_add-before : goal.overflow_add-before
overflow_add-before c =
    let d = day_in c.in-Some.day in
    let es = c.args.tally.now.entries in
    let was : c.unwrap_or-before.result ≡ unwrap_or (lookup (at_day d) es) 0 = c.unwrap_or-before.ensures ∙ ap (λ o. unwrap_or o 0) (c.copied.ensures ∙ c.get.ensures.value) in
    omega (arith, was, day_count_seen es d, c.requires.fits d)

pub returns-clause-counts : goal.returns-clause-counts
returns-clause-counts c =
    let d = day_in c.in-Some.day in
    let es = c.args.tally.now.entries in
    let was : c.unwrap_or-before.result ≡ unwrap_or (lookup (at_day d) es) 0 = c.unwrap_or-before.ensures ∙ ap (λ o. unwrap_or o 0) (c.copied.ensures ∙ c.get.ensures.value) in
    let updates = on_ok c.insert.result _ (c.insert.ensures.succeeds c.requires.room) c.insert.ensures.updates in
    subst (λ o. CountsChange is_kind_day (is_own (option_map day_in o)) one_more (days_in es) (days_in c.insert.new.self.entries)) (sym c.in-Some.is)
    (day_changes one_more d es c.insert.new.self.entries (Some (c.unwrap_or-before.result + 1)) updates.3 updates.1 (ap one_more was))
