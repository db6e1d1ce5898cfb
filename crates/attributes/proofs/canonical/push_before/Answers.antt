use Rattle.std.proofs.Common.{◌≡◌, ◌∙◌, Bool, true, string_bytes, ap, sym, rules}
use Rattle.serde_json.specs.Data.{member}
use Rattle.attributes.specs.steps.ObjectText.{onto, pending}
use Rattle.attributes.proofs.ObjectTextLemmas.{put_above, put_below}
use Rattle.attributes.proofs.canonical.push_before.Goals as goal

pub returns-in_default-clause-text : goal.returns-in_default-clause-text
returns-in_default-clause-text c = λ d e ms text.
    let old = string_bytes c.args.draft.now.text in
    let k = c.args.payload.now.name.now in
    let l = c.args.name.now in
    let waits : c.args.waiting ≡ true = search rules in
    ap (onto old) (sym (put_above k l d e ms c.requires.other c.requires.name (λ below. c.in_default.not-Less (c.cmp.ensures ∙ below))))
    ∙ ap (λ (b : Bool). onto old (pending b k d (member l e ms))) (sym waits)

pub returns-in_ok-push_payload-in-Less-clause-text : goal.returns-in_ok-push_payload-in-Less-clause-text
returns-in_ok-push_payload-in-Less-clause-text c = λ d e ms text.
    let old = string_bytes c.args.draft.now.text in
    let k = c.args.payload.now.name.now in
    let l = c.args.name.now in
    let waits : c.args.waiting ≡ true = search rules in
    c.in_ok-push_payload-in-Less.ensures.text d (member l e ms) (text waits)
    ∙ (ap (onto old) (sym (put_below k l d e ms (sym c.cmp.ensures ∙ c.in-Less.is)))
    ∙ ap (λ (b : Bool). onto old (pending b k d (member l e ms))) (sym waits))
