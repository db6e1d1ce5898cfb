use Rattle.std.proofs.Common.{rules, ◌≡◌, [], List, ℕ, ℤ, map, sym, ap, ◌∙◌, Bor}
use Rattle.std.specs.BTreeMap.{insert_entry}
use Rattle.views.specs.Tally.{day_cmp}
use Rattle.views.proofs.TableLemmas.{seen_insert}
use Rattle.kept_views.specs.Tables.{KindDay}
use Rattle.kept_views.specs.steps.Rows.{put_all}
use Rattle.kept_views.specs.steps.Seen.{days_in}
use Rattle.kept_views.proofs.DayLemmas.{days_distinct, days_listed}
use Rattle.kept_views.proofs.days.ordered_days.Goals as goal

pub loop-day-preserved : goal.loop-day-preserved
loop-day-preserved c =
    let old = map (λ (e : (Bor (List ℕ) × ℤ) × ℕ). ((e.0.0.now, e.0.1), e.1)) c.loop-day.table.entries in
    ap (λ (t : List (KindDay × ℕ)). put_all day_cmp t (days_in c.next.new.self))
    (ap (map (λ (e : (Bor (List ℕ) × ℤ) × ℕ). ((e.0.0.now, e.0.1), e.1))) c.in_ok-put_count.ensures
    ∙ seen_insert (λ (b : Bor (List ℕ) × ℤ). (b.0.now, b.1)) (λ (n : ℕ). n) day_cmp c.loop-day.table.entries (c.as_str.result, c.in-Some.day.now.1) c.in-Some.count.now
    ∙ ap (λ b. insert_entry day_cmp old (b, c.in-Some.day.now.1) c.in-Some.count.now) c.as_str.ensures.value)
    ∙ ap (λ l. put_all day_cmp old (days_in l)) (sym c.in-Some.ensures.steps) ∙ c.loop-day.invariant

pub returns : goal.returns
returns c = λ shown counts.
    let rest : c.loop-day.day-iterator ≡ [] = search rules in
    ap (λ l. put_all day_cmp (map (λ (e : (Bor (List ℕ) × ℤ) × ℕ). ((e.0.0.now, e.0.1), e.1)) c.loop-day.table.entries) (days_in l)) (sym rest) ∙ c.loop-day.invariant
    ∙ days_listed shown (days_in c.args.days.now.entries) counts (days_distinct c.args.days.now.entries c.iter-day-items.ensures.unique)
