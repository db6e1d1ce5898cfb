use Rattle.std.proofs.Common.{map}
use Rattle.parts.proofs.WholeLemmas.{taken}
use Rattle.parts.proofs.cover.combine_covers.Goals as goal

pub returns-clause-taken : goal.returns-clause-taken
returns-clause-taken c p E answers = taken c.texts_tell_summaries.ensures p E (map (λ t. t.now) c.args.covers.now) answers c.unite_texts.result c.unite_texts.ensures.refused
