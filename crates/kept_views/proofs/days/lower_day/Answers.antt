use Rattle.std.proofs.Common.{rules, ◌≡◌, ◌-◌, ◌∙◌, sym, ap, subst, None, Some, arith}
use Rattle.std.specs.Map.{lookup}
use Rattle.std.specs.Option.{option_map, unwrap_or}
use Rattle.kept_views.specs.Tables.{count_in_table, is_kind_day}
use Rattle.kept_views.specs.steps.Moves.{CountsChange, is_own, one_less}
use Rattle.kept_views.specs.steps.Seen.{day_in, days_in}
use Rattle.kept_views.proofs.DayLemmas.{at_day, day_changes}
use Rattle.kept_views.proofs.TallyLemmas.{counted_some}
use Rattle.kept_views.proofs.days.lower_day.Goals as goal

pub returns-then-before-le1-clause-counts : goal.returns-then-before-le1-clause-counts
returns-then-before-le1-clause-counts c =
    let d = day_in c.in-Some.day in
    let es = c.args.tally.now.entries in
    let was : c.unwrap_or-before.result ≡ unwrap_or (lookup (at_day d) es) 0 = c.unwrap_or-before.ensures ∙ ap (λ o. unwrap_or o 0) (c.copied.ensures ∙ c.get.ensures.value) in
    let left : 0 ≡ unwrap_or (lookup (at_day d) es) 0 - 1 = omega (arith, was, c.if-before-le1.true) in
    subst (λ o. CountsChange is_kind_day (is_own (option_map day_in o)) one_less (days_in es) (days_in c.swap_remove.new.self.entries)) (sym c.in-Some.is)
    (day_changes one_less d es c.swap_remove.new.self.entries None c.swap_remove.ensures.updates.3 c.swap_remove.ensures.updates.1 (ap count_in_table left))

pub returns-in-Some-get_mut-clause-counts : goal.returns-in-Some-get_mut-clause-counts
returns-in-Some-get_mut-clause-counts c =
    let d = day_in c.in-Some.day in
    let es = c.args.tally.now.entries in
    let was : c.unwrap_or-before.result ≡ unwrap_or (lookup (at_day d) es) 0 = c.unwrap_or-before.ensures ∙ ap (λ o. unwrap_or o 0) (c.copied.ensures ∙ c.get.ensures.value) in
    let w = c.unwrap_or-before.result - 1 in
    let updates = (c.get_mut.follows.holds w).3 (search rules) in
    subst (λ o. CountsChange is_kind_day (is_own (option_map day_in o)) one_less (days_in es) (days_in (c.get_mut.follows.lender w).entries)) (sym c.in-Some.is)
    (day_changes one_less d es (c.get_mut.follows.lender w).entries (Some w) updates.3 updates.1
    (counted_some w (λ e. omega (arith, e, c.if-before-le1.false)) ∙ ap one_less was))
