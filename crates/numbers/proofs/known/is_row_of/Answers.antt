use Rattle.std.proofs.Common.{◌≡◌, ◌∙◌, ap, subst, sym}
use Rattle.std.proofs.lemmas.Slice.Eq.{bytes_eq-Decides}
use Rattle.attributes.specs.Event.{text}
use Rattle.attributes.specs.Fault.{IsEvent}
use Rattle.numbers.specs.Numbered.{with_sequence}
use Rattle.numbers.proofs.BareLemmas.{row_is, row_text}
use Rattle.numbers.proofs.known.is_row_of.Goals as goal

pub returns : goal.returns
returns c =
    let e = c.args.event.now in
    let x = c.args.row.now in
    let h = c.in_ok-given.ensures.numbered in
    let t = h.digits in
    let decides = bytes_eq-Decides c.text.result.now c.text-2.result.now in
    let given : c.text.result.now ≡ text (with_sequence t e) = c.text.ensures.text ∙ ap text (c.event.ensures ∙ h.is) in
    let own : c.text-2.result.now ≡ text x = c.text-2.ensures.text ∙ ap text c.event-2.ensures in (
      λ is. (c.number.result, row_is e x t c.number.result c.requires (subst IsEvent c.event-2.ensures c.text-2.ensures.event) h.number (sym given ∙ decides.0 (sym c.eq.ensures ∙ is) ∙ own)),
      λ has. c.eq.ensures ∙ decides.1 (given ∙ row_text e x t has.0 c.number.result h.number c.number.ensures has.1 ∙ sym own),
    )
