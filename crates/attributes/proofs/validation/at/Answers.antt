use Rattle.std.proofs.Common.{◌∙◌}
use Rattle.attributes.proofs.MembersLemmas.{value_at-named}
use Rattle.attributes.proofs.validation.at.Goals as goal

pub returns : goal.returns
returns c = c.get.ensures.value ∙ value_at-named c.args.name.now c.args.members.now.entries
