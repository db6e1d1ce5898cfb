use Rattle.std.proofs.Common.{◌≤◌, ◌∙◌, ◌++◌, ◌∷◌, [], Some, ap, arith, length, refl, sym, take, take_all}
use Rattle.std.proofs.lemmas.Option.{slice_get_read}
use Rattle.serde_json.specs.Written.{compact_text}
use Rattle.views.proofs.StepLemmas.{take_next}
use Rattle.parts.proofs.ConflictLineLemmas.{as_many, item_at}
use Rattle.parts.proofs.ReadLemmas.{none_some, some_one}
use Rattle.parts.proofs.events.read_items.Goals as goal

pub returns-in-None : goal.returns-in-None
returns-in-None c es all same =
    let items = c.args.items.now in
    let i = c.loop-item.item-index in
    let got = slice_get_read items (length items) i c.item-item.result refl c.loop-item-test.true c.item-item.is in
    let own = item_at items es i c.item-item.result all same got in
    let words = c.as_str.ensures.value ∙ c.in_ok-text.ensures.text own.whole ∙ ap compact_text own.is in
    absurd (none_some own.event (sym c.in-None.is ∙ c.in_ok-event.ensures own.event own.own.1.0 own.own.0 own.own.1.1 words))

pub loop-item-preserved : goal.loop-item-preserved
loop-item-preserved c es all same =
    let items = c.args.items.now in
    let i = c.loop-item.item-index in
    let got = slice_get_read items (length items) i c.item-item.result refl c.loop-item-test.true c.item-item.is in
    let own = item_at items es i c.item-item.result all same got in
    let words = c.as_str.ensures.value ∙ c.in_ok-text.ensures.text own.whole ∙ ap compact_text own.is in
    let read = some_one c.in-Some.event own.event (sym c.in-Some.is ∙ c.in_ok-event.ensures own.event own.own.1.0 own.own.0 own.own.1.1 words) in
    c.in_ok-push-in-Some.ensures.ok
    ∙ ap (λ l. l ++ c.in-Some.event ∷ []) (c.loop-item.invariant es all same)
    ∙ ap (λ e. take i es ++ e ∷ []) read
    ∙ sym (take_next es i own.event own.there)

pub returns : goal.returns
returns c es all same =
    let many = as_many c.args.items.now es same in
    let end : length es ≤ c.loop-item.item-index = omega (arith, many, c.loop-item-test.false) in
    ap Some (c.loop-item.invariant es all same ∙ take_all c.loop-item.item-index es end)
