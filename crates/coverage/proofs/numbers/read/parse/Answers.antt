use Rattle.std.proofs.Common.{true≢false, sym}
use Rattle.coverage.proofs.SummaryTextLemmas.{is_json}
use Rattle.coverage.proofs.numbers.read.parse.Goals as goal

pub returns-else-is_memory-clause-accepted : goal.returns-else-is_memory-clause-accepted
returns-else-is_memory-clause-accepted c =
    λ is. absurd (is_json c.args.bytes.now is (c.in-Err.ensures.err (λ memory. true≢false (sym (c.if-is_memory.ensures.1 memory)))))
