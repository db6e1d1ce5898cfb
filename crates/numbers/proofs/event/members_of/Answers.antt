use Rattle.std.proofs.Common.{◌∙◌, Some, ap, sym}
use Rattle.serde_json.specs.Data.{Data}
use Rattle.serde_json.specs.Read.{read}
use Rattle.serde_json.specs.View.{members_view}
use Rattle.attributes.specs.Event.{members_of}
use Rattle.attributes.proofs.LawLemmas.{same_object}
use Rattle.numbers.proofs.event.members_of.Goals as goal

pub returns-in-Some-clause-members : goal.returns-in-Some-clause-members
returns-in-Some-clause-members c =
    same_object (members_view c.in-Some.members.entries) (members_of c.args.event.now)
    (ap (λ (d : Data). Some d) (sym c.in-Some.ensures) ∙ sym c.in-Ok.ensures.ok ∙ ap read c.text.ensures.text ∙ c.text_reads_back.ensures c.args.event.now c.text.ensures.event)
