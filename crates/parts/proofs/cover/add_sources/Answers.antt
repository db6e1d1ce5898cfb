use Rattle.std.proofs.Common.{◌≡◌, ◌<◌, ◌∙◌, true, length, sym, ap, subst, arith}
use Rattle.std.specs.BTreeSet.{contains_text}
use Rattle.std.specs.String.{string_bytes}
use Rattle.std.specs.Map.Iter.{deref_pair}
use Rattle.std.proofs.lemmas.List.{length-map}
use Rattle.std.proofs.lemmas.Map.Text.{btree_set_updates_text}
use Rattle.coverage.specs.Summary.{entries_of}
use Rattle.parts.proofs.CoverLemmas.{each_source, row_more, source_put}
use Rattle.parts.proofs.cover.add_sources.Goals as goal

pub loop-i-preserved : goal.loop-i-preserved
loop-i-preserved c =
    let summary = c.args.summary.now in
    let entries = c.in_ok-entries.entries in
    let within = subst (λ n. c.loop-i.i < n) (c.len-i-end.ensures ∙ entries.ok.0) c.loop-i-test.true in
    let old = c.loop-i.sources in
    let new = c.insert.new.self in
    let it = source_put old new (string_bytes c.in_ok-name.name) (btree_set_updates_text (string_bytes c.in_ok-name.name) old new true c.in_ok-insert.ensures.updates) in (
      row_more deref_pair entries.items (entries_of summary) c.loop-i.i c.index.result.now (λ s. contains_text new s ≡ true)
          c.in_ok-entries.ensures.entries within c.index.ensures (λ k lt e got. it.1 e.0 (c.loop-i.invariant.0 k lt e got)) (subst (λ s. contains_text new s ≡ true) c.in_ok-name.ensures.ok it.0),
      λ s was. it.1 s (c.loop-i.invariant.1 s was),
    )

pub returns-clause-has : goal.returns-clause-has
returns-clause-has c source has =
    let es = entries_of c.args.summary.now in
    let entries = c.in_ok-entries.entries in
    let count : length es ≡ c.len-i-end.result = sym (ap length c.in_ok-entries.ensures.entries) ∙ length-map entries.items deref_pair ∙ sym entries.ok.0 ∙ sym c.len-i-end.ensures in
    each_source c.args.summary.now (λ s. contains_text c.loop-i.sources s ≡ true) (λ k lt e got. let below : k < c.loop-i.i = omega (arith, lt, count, c.loop-i-test.false) in c.loop-i.invariant.0 k below e got) source has
