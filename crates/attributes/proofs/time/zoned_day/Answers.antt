use Rattle.std.proofs.Common.{◌≡◌, ◌∙◌, ℤ, pos, ◌+ℤ◌, ◌-ℤ◌, ◌*ℤ◌, Some, None, drop, ap, ap₂, sym, FitsSigned, w32, rules}
use Rattle.std.proofs.lemmas.Int.{to_z-of_z}
use Rattle.jiff_core.specs.Calendar.{days_from_civil}
use Rattle.std.specs.Prelude.{option_and_then}
use Rattle.std.specs.Int.{int_div_euclid}
use Rattle.attributes.specs.Time.{after_fraction, day_at, if_in_range, offset_of, two_at, year_of}
use Rattle.attributes.proofs.TimeLemmas.{rest_is}
use Rattle.attributes.proofs.time.zoned_day.Goals as goal

pub returns-in-Some-offset_of : goal.returns-in-Some-offset_of
returns-in-Some-offset_of c =
    let t = c.args.bytes.now in
    let offset = c.in-Some-offset_of.offset in
    let zone : after_fraction (drop 19 t) ≡ Some c.in-Some.zone.now = ap after_fraction (sym (rest_is t)) ∙ sym c.in-Some.ensures in
    let east : option_and_then offset_of (after_fraction (drop 19 t)) ≡ Some offset = ap (option_and_then offset_of) zone ∙ sym c.in-Some-offset_of.ensures.value in
    let day_fits : FitsSigned w32 c.args.day = c.ranges.day in
    let offset_fits : FitsSigned w32 offset = search rules in
    c.utc_day.ensures
    ∙ (ap₂ (λ d z. if_in_range (int_div_euclid (d *ℤ pos 86400 +ℤ pos c.second_of_day.result -ℤ z) (pos 86400))) (to_z-of_z w32 c.args.day day_fits ∙ c.requires.civil) (to_z-of_z w32 offset offset_fits)
    ∙ ap (λ s. if_in_range (int_div_euclid (days_from_civil (pos (year_of t)) (two_at t 5) (two_at t 8) *ℤ pos 86400 +ℤ pos s -ℤ offset) (pos 86400))) c.second_of_day.ensures.value
    ∙ sym (ap (option_and_then (λ (z : ℤ). if_in_range (day_at t z))) east))

pub returns-in-None-offset_of : goal.returns-in-None-offset_of
returns-in-None-offset_of c =
    let t = c.args.bytes.now in
    let zone : after_fraction (drop 19 t) ≡ Some c.in-Some.zone.now = ap after_fraction (sym (rest_is t)) ∙ sym c.in-Some.ensures in
    let east : option_and_then offset_of (after_fraction (drop 19 t)) ≡ None = ap (option_and_then offset_of) zone ∙ sym c.in-None-offset_of.ensures.value in
    sym (ap (option_and_then (λ (z : ℤ). if_in_range (day_at t z))) east)

pub returns-in-None : goal.returns-in-None
returns-in-None c =
    let t = c.args.bytes.now in
    let zone : after_fraction (drop 19 t) ≡ None = ap after_fraction (sym (rest_is t)) ∙ sym c.in-None.ensures in
    sym (ap (λ z. option_and_then (λ (o : ℤ). if_in_range (day_at t o)) (option_and_then offset_of z)) zone)
