use Rattle.std.proofs.Common.{List, ℕ, map, sym, ap, ◌∙◌, Some, Bor}
use Rattle.std.specs.Option.{option_copied}
use Rattle.attributes.specs.Event.{EventValue, source_of, subject_of}
use Rattle.views.specs.Latest.{entity_cmp}
use Rattle.views.proofs.TableLemmas.{seen_insert}
use Rattle.kept_views.proofs.LatestLemmas.{goes_in}
use Rattle.kept_views.proofs.latest.add.Goals as goal

pub returns-in_ok-insert : goal.returns-in_ok-insert
returns-in_ok-insert c =
    ap (map (λ (e : (Bor (List ℕ) × Bor (List ℕ)) × Bor EventValue). ((e.0.0.now, e.0.1.now), Some e.1.now))) c.in_ok-insert.ensures.entries
    ∙ seen_insert (λ (k : Bor (List ℕ) × Bor (List ℕ)). (k.0.now, k.1.now)) (λ (z : Bor EventValue). Some z.now) entity_cmp c.args.latest.now.entries (c.source.result, c.in-Some.subject) c.args.event
    ∙ goes_in _ c.args.event.now _ _ (c.source.ensures.value ∙ ap source_of c.event-in-Some.ensures) (sym (ap option_copied c.in-Some.is) ∙ c.subject.ensures ∙ ap subject_of c.event.ensures)
