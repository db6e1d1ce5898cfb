use Rattle.std.proofs.Common.{◌≡◌, true, false, slice_get, sym, ap, ◌∙◌, subst}
use Rattle.attributes.specs.Event.{source_of}
use Rattle.block_digests.specs.Number.{has_number}
use Rattle.coverage.specs.Digests.{is_wanted}
use Rattle.coverage.specs.Summary.{holds_at}
use Rattle.site.proofs.AmongLemmas.{none_first, place_is, place_there, wants_none_of}
use Rattle.site.proofs.site.Site.wants_none.Goals as goal

pub returns-in_default : goal.returns-in_default
returns-in_default c = λ source k same t p e came inside.
    let w = place_there c.args.self.now source k p e came inside in
    absurd (none_first c.args.places.now w.0 p (sym c.in_default.ensures.value) (ap (λ l. slice_get l w.0) same ∙ w.1))

pub returns : goal.returns
returns c = λ source k same t p e came inside.
    let A = c.args.self.now in
    let f = c.arrived_at-event.result.now in
    let numbers = c.self.inside.summary in
    let source_is : c.source.result.now ≡ source_of f = c.source.ensures.value ∙ ap source_of c.event.ensures in
    let own_inside = place_is A source k 0 c.in-Some.first.now f (sym (ap (λ l. slice_get l 0) same) ∙ sym c.in-Some.ensures.value) c.arrived_at-event.ensures in
    wants_none_of A c.args.peer.now c.args.own.now numbers source k f c.number.result (λ s n. c.self.invariant.0 s n ∙ ap (λ l. has_number l s n) c.self.view_is) own_inside c.number.ensures
    (λ n b h. subst (λ s. is_wanted c.args.peer.now c.args.own.now s n ≡ false) source_is (c.wants_none_beside.ensures t n b (subst (λ s. holds_at numbers s n ≡ true) (sym source_is) h)))
    p e came inside
