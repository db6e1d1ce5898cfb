use Rattle.std.proofs.Common.{◌∙◌}
use Rattle.attributes.proofs.MembersLemmas.{value_at-named}
use Rattle.numbers.proofs.known.at.Goals as goal

pub returns : goal.returns
returns c = c.copied.ensures ∙ c.get.ensures.value ∙ value_at-named c.args.name.now c.args.numbers.now.entries
