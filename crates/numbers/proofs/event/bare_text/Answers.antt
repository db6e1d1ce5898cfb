use Rattle.std.proofs.Common.{◌≡◌, ◌∙◌, ap, codes}
use Rattle.std.proofs.lemmas.Result.{IfOk-weaker}
use Rattle.serde_json.specs.Data.{Members, object}
use Rattle.serde_json.specs.View.{members_view}
use Rattle.serde_json.specs.Written.{compact_text, has_float}
use Rattle.serde_json.proofs.Views.{view-Object}
use Rattle.attributes.specs.Event.{members_of}
use Rattle.numbers.specs.Aside.{without}
use Rattle.numbers.proofs.AsideLemmas.{float_without, members_view-remove}
use Rattle.numbers.proofs.TextLemmas.{no_float}
use Rattle.numbers.proofs.event.bare_text.Goals as goal

pub returns-clause-text : goal.returns-clause-text
returns-clause-text c =
    let e = c.args.event.now in
    let key = codes "sequence" in
    let left = c.remove.new.self in
    let is : members_view left.entries ≡ without key (members_of e) =
    ap members_view c.remove.ensures.entries ∙ members_view-remove key c.in_ok-members.members.entries ∙ ap (without key) c.in_ok-members.ensures.members in
    let shows = view-Object left ∙ ap (λ (ms : Members). object ms) is in
    let none = ap has_float shows ∙ float_without key (members_of e) (no_float e c.in_ok-members.ensures.event) in
    IfOk-weaker c.to_string.result _ _ (λ s f. f none ∙ ap compact_text shows) c.to_string.ensures.text
