use Rattle.std.proofs.Common.{map}
use Rattle.parts.proofs.SummaryLemmas.{taken}
use Rattle.parts.proofs.summaries.combine_summaries.Goals as goal

pub returns-clause-taken : goal.returns-clause-taken
returns-clause-taken c p E given = taken c.texts_tell_summaries.ensures p E (map (λ t. t.now) c.args.summaries.now) given c.join_texts.result c.join_texts.ensures.refused
