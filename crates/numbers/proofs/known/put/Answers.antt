use Rattle.std.proofs.Common.{◌∙◌, ap, List, ℕ}
use Rattle.attributes.specs.Members.{named, with_value}
use Rattle.attributes.proofs.MembersLemmas.{named-insert_entry}
use Rattle.numbers.proofs.known.put.Goals as goal

pub returns : goal.returns
returns c =
    ap named c.in_ok-insert.ensures.entries ∙ named-insert_entry c.args.numbers.now.entries c.in_ok-name.name c.args.number
    ∙ ap (λ (k : List ℕ). with_value k c.args.number (named c.args.numbers.now.entries)) c.in_ok-name.ensures.ok
