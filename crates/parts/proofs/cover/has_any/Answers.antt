use Rattle.std.proofs.Common.{◌≡◌, ◌<◌, ◌∙◌, false, length, sym, ap, subst, arith}
use Rattle.std.specs.BTreeSet.{contains_text}
use Rattle.std.specs.Map.Iter.{deref_pair}
use Rattle.std.proofs.lemmas.List.{length-map}
use Rattle.coverage.specs.Summary.{entries_of}
use Rattle.parts.proofs.CoverLemmas.{each_source, row_more}
use Rattle.parts.proofs.cover.has_any.Goals as goal

pub loop-i-preserved : goal.loop-i-preserved
loop-i-preserved c =
    let summary = c.args.summary.now in
    let entries = c.in_ok-entries.entries in
    let within = subst (λ n. c.loop-i.i < n) (c.len-i-end.ensures ∙ entries.ok.0) c.loop-i-test.true in
    row_more deref_pair entries.items (entries_of summary) c.loop-i.i c.index.result.now (λ source. contains_text c.args.sources.now source ≡ false)
    c.in_ok-entries.ensures.entries within c.index.ensures c.loop-i.invariant (sym c.contains.ensures ∙ c.if-contains.false)

pub returns : goal.returns
returns c none source has =
    let es = entries_of c.args.summary.now in
    let entries = c.in_ok-entries.entries in
    let count : length es ≡ c.len-i-end.result = sym (ap length c.in_ok-entries.ensures.entries) ∙ length-map entries.items deref_pair ∙ sym entries.ok.0 ∙ sym c.len-i-end.ensures in
    each_source c.args.summary.now (λ s. contains_text c.args.sources.now s ≡ false) (λ k lt e got. let below : k < c.loop-i.i = omega (arith, lt, count, c.loop-i-test.false) in c.loop-i.invariant k below e got) source has
