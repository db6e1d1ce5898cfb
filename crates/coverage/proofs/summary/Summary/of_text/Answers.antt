use Rattle.std.proofs.Common.{length, sym, ◌∙◌}
use Rattle.std.proofs.Common.{eqb-true}
use Rattle.serde_json.specs.View.{view}
use Rattle.coverage.proofs.SummaryTextLemmas.{no_length, no_version, nothing_is_no_json, nothing_is_no_summary, other_version}
use Rattle.coverage.proofs.summary.Summary.of_text.Goals as goal

pub returns-in_default-clause-accepted : goal.returns-in_default-clause-accepted
returns-in_default-clause-accepted c = λ s h e. absurd (no_version c.args.bytes.now (view c.in_ok-value.value) (s, (h, e)) c.in_ok-value.ensures.value c.in_default.ensures)

pub returns-clause-accepted : goal.returns-clause-accepted
returns-clause-accepted c = λ s h e. absurd (other_version c.args.bytes.now (view c.in_ok-value.value) c.in-Some.version (s, (h, e)) c.in_ok-value.ensures.value c.in-Some.ensures c.if-version-eq1.false c.if-version-eq2.false)

pub returns-then-is_empty-clause-refused : goal.returns-then-is_empty-clause-refused
returns-then-is_empty-clause-refused c =
    nothing_is_no_json c.args.bytes.now (no_length c.args.bytes.now (eqb-true (length c.args.bytes.now) 0 (sym c.is_empty.ensures ∙ c.if-is_empty.true)))

pub returns-then-is_empty-clause-accepted : goal.returns-then-is_empty-clause-accepted
returns-then-is_empty-clause-accepted c = λ s h e.
    absurd (nothing_is_no_summary c.args.bytes.now (no_length c.args.bytes.now (eqb-true (length c.args.bytes.now) 0 (sym c.is_empty.ensures ∙ c.if-is_empty.true))) (s, (h, e)))
