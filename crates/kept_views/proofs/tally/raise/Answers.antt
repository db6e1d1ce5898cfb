use Rattle.std.proofs.Common.{◌≡◌, ◌+◌, ◌∙◌, ap, Some, if◌then◌else◌, bytes_eq, string_bytes, arith}
use Rattle.std.specs.Option.{unwrap_or}
use Rattle.indexmap.specs.IndexMap.{get_by_text}
use Rattle.std.proofs.lemmas.Map.Text.{hash_map_updates_text}
use Rattle.kept_views.proofs.TallyLemmas.{on_ok}
use Rattle.kept_views.proofs.tally.raise.Goals as goal

pub overflow_add-before : goal.overflow_add-before
overflow_add-before c =
    let was : c.unwrap_or-before.result ≡ unwrap_or (get_by_text c.args.tally.now (string_bytes c.args.text)) 0 =
    c.unwrap_or-before.ensures ∙ ap (λ o. unwrap_or o 0) (c.copied.ensures ∙ c.get.ensures.value ∙ ap (get_by_text c.args.tally.now) c.as_str.ensures.value) in
    omega (arith, was, c.requires.fits)

pub returns-clause-counts : goal.returns-clause-counts
returns-clause-counts c =
    let was : c.unwrap_or-before.result ≡ unwrap_or (get_by_text c.args.tally.now (string_bytes c.args.text)) 0 =
    c.unwrap_or-before.ensures ∙ ap (λ o. unwrap_or o 0) (c.copied.ensures ∙ c.get.ensures.value ∙ ap (get_by_text c.args.tally.now) c.as_str.ensures.value) in
    λ k. hash_map_updates_text (string_bytes c.args.text) c.args.tally.now c.insert.new.self (Some (c.unwrap_or-before.result + 1)) (on_ok c.insert.result _ (c.insert.ensures.succeeds c.requires.room) c.insert.ensures.updates) k
    ∙ ap (λ n. if bytes_eq (string_bytes c.args.text) k then Some (n + 1) else get_by_text c.args.tally.now k) was
