use Rattle.std.proofs.Common.{subst, None}
use Rattle.std.specs.Prelude.{◌↔◌, IsTrue}
use Rattle.coverage.specs.Summary.{Covers}
use Rattle.coverage.proofs.summary.Summary.covers.Goals as goal

pub returns : goal.returns
returns c =
    subst (λ t. IsTrue c.covers.result ↔ Covers c.args.self.now t) c.other.view_is
    (subst (λ s. IsTrue c.covers.result ↔ Covers s (record { entries = c.other.inside.numbers; digests = None })) c.self.view_is c.covers.ensures)
