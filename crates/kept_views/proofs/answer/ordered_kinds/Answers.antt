use Rattle.std.proofs.Common.{rules, ◌≡◌, [], List, ℕ, map, sym, ap, ◌∙◌, Bor}
use Rattle.std.specs.BTreeMap.{insert_entry}
use Rattle.attributes.specs.Bytes.{byte_cmp}
use Rattle.kept_views.specs.steps.Rows.{put_all}
use Rattle.kept_views.specs.steps.Seen.{kinds_in}
use Rattle.views.proofs.TableLemmas.{seen_insert}
use Rattle.kept_views.proofs.AnswerLemmas.{kinds_distinct, kinds_listed}
use Rattle.kept_views.proofs.answer.ordered_kinds.Goals as goal

pub loop-kind-preserved : goal.loop-kind-preserved
loop-kind-preserved c =
    let old = map (λ (e : Bor (List ℕ) × ℕ). (e.0.now, e.1)) c.loop-kind.table.entries in
    ap (λ (t : List (List ℕ × ℕ)). put_all byte_cmp t (kinds_in c.next.new.self))
    (ap (map (λ (e : Bor (List ℕ) × ℕ). (e.0.now, e.1))) c.in_ok-insert.ensures.entries
    ∙ seen_insert (λ (b : Bor (List ℕ)). b.now) (λ (n : ℕ). n) byte_cmp c.loop-kind.table.entries c.as_str.result c.in-Some.count.now
    ∙ ap (λ b. insert_entry byte_cmp old b c.in-Some.count.now) c.as_str.ensures.value)
    ∙ ap (λ l. put_all byte_cmp old (kinds_in l)) (sym c.in-Some.ensures.steps) ∙ c.loop-kind.invariant

pub returns : goal.returns
returns c = λ shown counts.
    let rest : c.loop-kind.kind-iterator ≡ [] = search rules in
    ap (λ l. put_all byte_cmp (map (λ (e : Bor (List ℕ) × ℕ). (e.0.now, e.1)) c.loop-kind.table.entries) (kinds_in l)) (sym rest) ∙ c.loop-kind.invariant
    ∙ kinds_listed shown (kinds_in c.args.kinds.now.entries) counts (kinds_distinct c.args.kinds.now.entries c.iter-kind-items.ensures.unique)
