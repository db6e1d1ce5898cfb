use Rattle.std.proofs.Common.{◌∙◌}
use Rattle.coverage.proofs.JoinLemmas.{source_had}
use Rattle.coverage.proofs.numbers.Numbers.has.Goals as goal

pub returns : goal.returns
returns c = c.contains_key.ensures ∙ source_had (λ v. v) c.self.inside.entries.entries c.args.self.now c.args.source.now c.self.view_is
