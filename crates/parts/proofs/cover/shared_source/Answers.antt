use Rattle.std.proofs.Common.{◌≡◌, ◌<◌, length, sym, ap, ◌∙◌, subst, true≢false, arith}
use Rattle.std.specs.Map.Iter.{deref_pair}
use Rattle.std.proofs.lemmas.List.{length-map}
use Rattle.std.proofs.lemmas.Option.{slice_get_within}
use Rattle.coverage.specs.Summary.{entries_of}
use Rattle.parts.specs.Combined.{HasSource}
use Rattle.parts.proofs.CoverLemmas.{entry_of, row_more}
use Rattle.parts.proofs.cover.shared_source.Goals.{else-has_source-via-then-has_source+else-has_source-2, else-has_source-via-else-has_source}
use Rattle.parts.proofs.cover.shared_source.Goals as goal

pub loop-i-preserved : goal.loop-i-preserved
loop-i-preserved c =
    let first = c.args.first.now in
    let second = c.args.second.now in
    let entries = c.in_ok-entries.entries in
    let within = subst (λ n. c.loop-i.i < n) (c.len-i-end.ensures ∙ entries.ok.0) c.loop-i-test.true in
    row_more deref_pair entries.items (entries_of second) c.loop-i.i c.index.result.now (λ source. HasSource first source → HasSource second source → ⊥)
    c.in_ok-entries.ensures.entries within c.index.ensures c.loop-i.invariant
    (elim c.else-has_source.branch [
      | else-has_source-via-then-has_source+else-has_source-2 w ↦ λ a b. true≢false (sym (w.has_source-then-has_source.ensures.1 b) ∙ w.if-has_source-2.false)
      | else-has_source-via-else-has_source w ↦ λ a b. true≢false (sym (c.has_source.ensures.1 a) ∙ w.if-has_source.false)
    ])

pub returns-clause-none : goal.returns-clause-none
returns-clause-none c source a b =
    let first = c.args.first.now in
    let second = c.args.second.now in
    let es = entries_of second in
    let entries = c.in_ok-entries.entries in
    let found = entry_of es source b.0 b.1 in
    let within = slice_get_within es found.0 found.1 found.2 in
    let count : length es ≡ c.len-i-end.result = sym (ap length c.in_ok-entries.ensures.entries) ∙ length-map entries.items deref_pair ∙ sym entries.ok.0 ∙ sym c.len-i-end.ensures in
    let below : found.0 < c.loop-i.i = omega (arith, within, count, c.loop-i-test.false) in
    c.loop-i.invariant found.0 below found.1 found.2 (subst (HasSource first) (sym found.3) a) (subst (HasSource second) (sym found.3) b)
