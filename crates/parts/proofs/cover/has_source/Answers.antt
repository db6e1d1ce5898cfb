use Rattle.std.proofs.Common.{sym, true≢false}
use Rattle.parts.proofs.CoverLemmas.{no_numbers}
use Rattle.parts.proofs.cover.has_source.Goals as goal

pub returns-in-None : goal.returns-in-None
returns-in-None c = ((λ h. absurd (true≢false (sym h))), λ h. absurd (no_numbers c.args.summary.now c.args.source.now c.in-None.ensures.numbers h))
