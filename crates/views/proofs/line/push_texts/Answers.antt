use Rattle.std.proofs.Common.{◌≡◌, ◌++◌, map, take, eqb, string_bytes, sym, ap, ◌∙◌, append_assoc, Some, slice_get, option_map}
use Rattle.std.specs.List.{join_with_byte}
use Rattle.std.proofs.lemmas.Option.{slice_get-get_or, slice_get-map}
use Rattle.attributes.specs.Event.{text}
use Rattle.views.specs.steps.Joined.{separated}
use Rattle.views.proofs.LineLemmas.{texts_more}
use Rattle.views.proofs.line.push_texts.Goals as goal

pub loop-i-preserved : goal.loop-i-preserved
loop-i-preserved c =
    let i = c.loop-i.i in
    let list = c.args.events.now in
    let es = map (λ e. e.now) list in
    let e = c.index-events-i.result.now in
    let own = string_bytes c.args.out.now in
    let there : slice_get es i ≡ Some e =
    slice_get-map (λ e. e.now) list i ∙ ap (option_map (λ e. e.now)) (slice_get-get_or list i c.index-events-i.result c.loop-i-test.true ∙ ap Some (sym c.index-events-i.is)) in
    c.in_ok-push_text.ensures
    ∙ ap (λ t. string_bytes c.loop-i.out ++ separated (eqb i 0) t) (c.text.ensures.text ∙ ap text c.event.ensures)
    ∙ ap (λ b. b ++ separated (eqb i 0) (text e)) c.loop-i.invariant
    ∙ append_assoc own (join_with_byte 44 (map text (take i es))) (separated (eqb i 0) (text e))
    ∙ ap (λ l. own ++ l) (sym (texts_more es i e there))
