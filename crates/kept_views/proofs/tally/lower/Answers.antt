use Rattle.std.proofs.Common.{rules, ◌≡◌, ◌-◌, ◌∙◌, sym, ap, None, Some, if◌then◌else◌, bytes_eq, arith}
use Rattle.std.specs.Option.{option_copied_mut, unwrap_or}
use Rattle.indexmap.specs.IndexMap.{get_by_text}
use Rattle.std.proofs.lemmas.Map.Text.{hash_map_updates_text}
use Rattle.kept_views.specs.Tables.{count_in_table}
use Rattle.kept_views.proofs.TallyLemmas.{counted_some}
use Rattle.kept_views.proofs.tally.lower.Goals as goal

pub returns-then-before-eq1-clause-counts : goal.returns-then-before-eq1-clause-counts
returns-then-before-eq1-clause-counts c =
    let was : unwrap_or (get_by_text c.args.tally.now c.args.text.now) 0 ≡ 1 =
    sym (c.unwrap_or-before.ensures ∙ ap (λ o. unwrap_or o 0) (c.copied.ensures ∙ c.get.ensures.value)) ∙ c.if-before-eq1.true in
    λ k. hash_map_updates_text c.args.text.now c.args.tally.now c.swap_remove.new.self None c.swap_remove.ensures.updates k
    ∙ sym (ap (λ n. if bytes_eq c.args.text.now k then count_in_table (n - 1) else get_by_text c.args.tally.now k) was)

pub returns-in-Some-clause-counts : goal.returns-in-Some-clause-counts
returns-in-Some-clause-counts c =
    let was : c.unwrap_or-before.result ≡ unwrap_or (get_by_text c.args.tally.now c.args.text.now) 0 =
    c.unwrap_or-before.ensures ∙ ap (λ o. unwrap_or o 0) (c.copied.ensures ∙ c.get.ensures.value) in
    let w = c.unwrap_or-before.result - 1 in
    λ k. hash_map_updates_text c.args.text.now c.args.tally.now (c.get_mut.follows.lender w) (Some w) ((c.get_mut.follows.holds w).3 (search rules)) k
    ∙ ap (λ n. if bytes_eq c.args.text.now k then n else get_by_text c.args.tally.now k) (counted_some w (λ e. omega (arith, e, was, c.requires.counted, c.if-before-eq1.false)))
    ∙ ap (λ n. if bytes_eq c.args.text.now k then count_in_table (n - 1) else get_by_text c.args.tally.now k) was

pub returns-in_default-clause-counts : goal.returns-in_default-clause-counts
returns-in_default-clause-counts c =
    let none : get_by_text c.args.tally.now c.args.text.now ≡ None = sym c.get_mut.ensures.value ∙ ap option_copied_mut c.in_default.is in
    absurd (omega (arith, c.requires.counted, ap (λ o. unwrap_or o 0) none))
