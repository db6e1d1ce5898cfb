-- The day of an event lies in the years 0000 to 9999.
use Rattle.std.proofs.Common.{◌≡◌, Bool, true, false, refl, sym, ap, ◌∙◌, List, ℕ}
use Rattle.std.specs.Prelude.{Option, Some, None, option_and_then, if◌then◌else◌, ℤ, ◌&&◌, drop}
use Rattle.attributes.specs.Event.{EventValue, time_of, day_of}
use Rattle.attributes.specs.Time.{time_day, if_in_range, has_shape, is_civil, day_at, offset_of, after_fraction}
use Rattle.views.specs.Day.{is_day_number}

in_range : (z d : ℤ) → if_in_range z ≡ Some d → is_day_number d ≡ true
in_range z d h =
    elim (is_day_number z) as (λ b. is_day_number z ≡ b → (if b then Some z else None) ≡ Some d → is_day_number d ≡ true) [
      | true ↦ λ e g. let same : z ≡ d = cc in ap is_day_number (sym same) ∙ e
      | false ↦ λ e g. cc
    ] refl h

then_range : (f : ℤ → ℤ) (o : Option ℤ) (d : ℤ) → option_and_then (λ z. if_in_range (f z)) o ≡ Some d → is_day_number d ≡ true
then_range f None d h = cc
then_range f (Some z) d h = in_range (f z) d h

if_range : (b : Bool) (f : ℤ → ℤ) (o : Option ℤ) (d : ℤ) → (if b then option_and_then (λ z. if_in_range (f z)) o else None) ≡ Some d → is_day_number d ≡ true
if_range true f o d h = then_range f o d h
if_range false f o d h = cc

timed : (o : Option (List ℕ)) (d : ℤ) → option_and_then time_day o ≡ Some d → is_day_number d ≡ true
timed None d h = cc
timed (Some t) d h = if_range (has_shape t && is_civil t) (day_at t) (option_and_then offset_of (after_fraction (drop 19 t))) d h

pub day_of_is_day : (e : EventValue) (d : ℤ) → day_of e ≡ Some d → is_day_number d ≡ true
day_of_is_day e d h = timed (time_of e) d h
