use Rattle.std.proofs.Common.{Some, ap, ap₂, sym, ◌∙◌}
use Rattle.serde_json.specs.View.{view}
use Rattle.coverage.proofs.SummaryTextLemmas.{second_of}
use Rattle.coverage.proofs.summary.Summary.of_version_2.Goals as goal

pub returns-in-Ok-clause-accepted : goal.returns-in-Ok-clause-accepted
returns-in-Ok-clause-accepted c = λ s h e.
    let w = second_of c.args.bytes.now (view c.args.value) s h e c.requires.json c.requires.version in
    let both = c.in-Ok.ensures.accepted s.entries w.0 h.listed w.1.1 w.1.2 in
    ap₂ (λ a b. record { entries = a; digests = b }) both.0 (ap (λ x. Some x) both.1 ∙ sym w.1.0)

pub returns-in-Err-clause-accepted : goal.returns-in-Err-clause-accepted
returns-in-Err-clause-accepted c = λ s h e.
    let w = second_of c.args.bytes.now (view c.args.value) s h e c.requires.json c.requires.version in
    c.in-Err.ensures.accepted s.entries w.0 h.listed w.1.1 w.1.2
