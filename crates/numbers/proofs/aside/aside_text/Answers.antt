use Rattle.std.proofs.Common.{◌≡◌, ◌∙◌, ap, subst, false, IfSome}
use Rattle.serde_json.specs.Data.{object}
use Rattle.serde_json.specs.View.{members_view}
use Rattle.serde_json.specs.Written.{compact_text, has_float}
use Rattle.serde_json.proofs.Views.{view-Object}
use Rattle.attributes.specs.Event.{members_of}
use Rattle.numbers.specs.Aside.{IsRenamed}
use Rattle.numbers.proofs.AsideLemmas.{float_renamed}
use Rattle.numbers.proofs.TextLemmas.{no_float}
use Rattle.numbers.proofs.aside.aside_text.Goals as goal

pub returns-in_ok-to_string-in-Some-clause-text : goal.returns-in_ok-to_string-in-Some-clause-text
returns-in_ok-to_string-in-Some-clause-text c =
    let e = c.args.event.now in
    let ms = members_view c.in-Some.members.entries in
    let renamed : IsRenamed c.args.name.now (members_of e) ms =
    subst (λ o. IfSome o (λ m. IsRenamed c.args.name.now (members_of e) (members_view m.entries))) c.in-Some.is
    (subst (λ old. IfSome c.in_ok-members-2.field-0 (λ m. IsRenamed c.args.name.now old (members_view m.entries))) c.in_ok-members.ensures.members c.in_ok-members-2.ensures) in
    let none : has_float (object ms) ≡ false = float_renamed c.args.name.now (members_of e) ms renamed (no_float e c.in_ok-members.ensures.event) in
    let shows = view-Object c.in-Some.members in
    (ms, renamed, c.in_ok-to_string-in-Some.ensures.text (ap has_float shows ∙ none) ∙ ap compact_text shows)
