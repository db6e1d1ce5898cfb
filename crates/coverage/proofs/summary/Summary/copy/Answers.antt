use Rattle.std.proofs.Common.{ap, ◌∙◌}
use Rattle.coverage.specs.Summary.{entries_of}
use Rattle.coverage.proofs.JoinLemmas.{wanted}
use Rattle.coverage.proofs.SummaryTextLemmas.{no_blocks}
use Rattle.coverage.proofs.summary.Summary.copy.Goals as goal

pub returns-in_err-copy-in-Some-clause-err : goal.returns-in_err-copy-in-Some-clause-err
returns-in_err-copy-in-Some-clause-err c =
    wanted c.from_residual-in_err-copy-in-Some.result _ (λ none. c.in_err-copy-in-Some.ensures.err
    (no_blocks c.self.inside.numbers c.self.inside.digests c.in-Some.digests c.self.invariant c.in-Some.is (ap entries_of c.self.view_is ∙ none)))
