use Rattle.std.proofs.Common.{◌≡◌, ◌∙◌, ◌+◌, ◌-◌, ◌<◌, ℕ, suc, List, false, length, drop, ap, ap₂, arith}
use Rattle.std.specs.Prelude.{slice_index_or}
use Rattle.attributes.specs.Event.{OfferValue}
use Rattle.attributes.specs.Fault.{given_all, given_of}
use Rattle.attributes.specs.Members.{with_value}
use Rattle.attributes.specs.declared.body.Place.{Place}
use Rattle.attributes.specs.declared.body.Kind.TheVariants as kind
use Rattle.attributes.specs.declared.content.Offered.{Offered}
use Rattle.attributes.specs.declared.scalar.Given.{Given}
use Rattle.attributes.specs.steps.Place.{place_name, shown}
use Rattle.attributes.proofs.PartsLemmas.{place_at, set_next}
use Rattle.attributes.proofs.parts.attribute_parts.Goals as goal

abbrev offer : List (List ℕ × Given) → Offered → OfferValue
offer ms o = record { members = ms; offered = o }

pub value_of-requires : goal.value_of-requires
value_of-requires c = place_at c.args.text.now c.args.aside.now c.args.places.now _ _ (omega (arith, c.loop-i-test.true)) c.requires.places

pub name_at-requires : goal.name_at-requires
name_at-requires c = place_at c.args.text.now c.args.aside.now c.args.places.now _ _ (omega (arith, c.loop-i-test.true)) c.requires.places

pub loop-i-preserved : goal.loop-i-preserved
loop-i-preserved c =
    let t = c.args.text.now in
    let u = c.args.aside.now in
    let ps = c.args.places.now in
    let none : Place = record { name = record { start = 0; end = 0 }; value = kind.Flag false } in
    let k = length ps - 1 - c.loop-i.i in
    let now : length ps - c.loop-i.i ≡ suc k = omega (arith, c.loop-i-test.true) in
    let next : k ≡ length ps - (c.loop-i.i + 1) = omega arith in
    let below : k < length ps = omega (arith, c.loop-i-test.true) in
    let had : c.loop-i.parts.members ≡ given_all (shown t u (drop (suc k) ps)) = ap (λ (p : OfferValue). p.members) c.loop-i.invariant ∙ ap (λ (n : ℕ). given_all (shown t u (drop n ps))) now in
    let value = c.in_ok-value.ensures ∙ ap given_of c.value_of.ensures in
    c.in_ok-set.ensures.ok
    ∙ ap₂ offer
    (ap₂ (λ (n : List ℕ) (m : List (List ℕ × Given)). with_value n c.in_ok-value.value m) c.name_at.ensures had
    ∙ ap (λ (g : Given). with_value (place_name t u (slice_index_or ps k none)) g (given_all (shown t u (drop (suc k) ps)))) value
    ∙ set_next t u ps none k below c.requires.order
    ∙ ap (λ (n : ℕ). given_all (shown t u (drop n ps))) next)
    (ap (λ (p : OfferValue). p.offered) c.loop-i.invariant)
