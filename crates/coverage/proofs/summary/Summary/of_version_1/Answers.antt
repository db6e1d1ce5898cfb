use Rattle.std.proofs.Common.{ap₂, sym}
use Rattle.serde_json.specs.View.{view}
use Rattle.coverage.proofs.SummaryTextLemmas.{first_of}
use Rattle.coverage.proofs.summary.Summary.of_version_1.Goals as goal

pub returns-in-Ok-clause-accepted : goal.returns-in-Ok-clause-accepted
returns-in-Ok-clause-accepted c = λ s h e.
    let w = first_of c.args.bytes.now (view c.args.value) s h e c.requires.json c.requires.version in
    ap₂ (λ a b. record { entries = a; digests = b }) (c.in-Ok.ensures.accepted s.entries h.listed w.1.0) (sym w.0)

pub returns-in-Err-clause-accepted : goal.returns-in-Err-clause-accepted
returns-in-Err-clause-accepted c = λ s h e.
    let w = first_of c.args.bytes.now (view c.args.value) s h e c.requires.json c.requires.version in
    c.in-Err.ensures.accepted s.entries h.listed w.1.0
