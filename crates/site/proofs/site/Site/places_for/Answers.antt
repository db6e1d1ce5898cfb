use Rattle.std.proofs.Common.{◌≡◌, Some, refl, slice_get, sym, ap, ◌∙◌, subst, arith, inl, inr}
use Rattle.std.proofs.lemmas.Bool.{both_ways, cases_lt}
use Rattle.block_digests.specs.Kept.{IsKeptOf}
use Rattle.inbox.specs.Sets.{set_of}
use Rattle.site.proofs.AmongLemmas.{all_handled, place_there, same_places}
use Rattle.site.proofs.site.Site.places_for.Goals as goal

pub loop-i-preserved-then-wants_none : goal.loop-i-preserved-then-wants_none
loop-i-preserved-then-wants_none c = λ j ps less at source k same p e came inside wants.
    elim (cases_lt j c.loop-i.i) [
      | inl before ↦ c.loop-i.invariant j ps before at source k same p e came inside wants
      | inr upto ↦
          let here : j ≡ c.loop-i.i = omega arith in
          let own = same_places c.self.inside.blocks.blocks j c.loop-i.i ps c.places-places.result.now here at c.places-places.ensures in
          absurd (both_ways _ (c.if-wants_none.ensures source k (sym own ∙ same) refl p e came inside) wants)
    ]

pub loop-i-preserved : goal.loop-i-preserved
loop-i-preserved c = λ j ps less at source k same p e came inside wants f i again stands.
    elim (cases_lt j c.loop-i.i) [
      | inl before ↦ c.in-Ok.ensures.kept i (c.loop-i.invariant j ps before at source k same p e came inside wants f i again stands)
      | inr upto ↦
          let here : j ≡ c.loop-i.i = omega arith in
          let own = same_places c.self.inside.blocks.blocks j c.loop-i.i ps c.places-places.result.now here at c.places-places.ensures in
          let w = place_there c.args.self.now source k p e came inside in
          c.in-Ok.ensures.added w.0 p (ap (λ l. slice_get l w.0) (sym own ∙ same) ∙ w.1) f i
          (subst (λ l. slice_get l p ≡ Some f) (sym c.self.view_is) again) (subst (λ l. slice_get (set_of l) i ≡ Some f) (sym c.self.view_is) stands)
    ]

pub returns : goal.returns
returns c =
    let A = c.args.self.now in
    let kept = c.self.inside.blocks in
    all_handled c.sets_are_members.ensures A c.args.peer.now c.args.own.now kept c.loop-i.found c.arrived.ensures.events (subst (λ l. IsKeptOf l kept) c.self.view_is c.self.invariant.4) c.requires
    (λ j ps less. c.loop-i.invariant j ps (omega (arith, less, c.loop-i-test.false, c.len-i-end.ensures)))
