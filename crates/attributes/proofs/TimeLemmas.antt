-- What the shape of a time tells, and what its day is made of.
use Rattle.std.proofs.Common.{◌≡◌, ◌∙◌, ◌≤◌, ◌<◌, ℕ, ℤ, pos, Bool, true, false, ◌&&◌, ◌||◌, ◌-◌, take, length-drop, List, Option, Some, None, length, drop, refl, ap, ap₂, sym, subst, arith, w64, to_z, of_z, ◌+ℤ◌, ◌-ℤ◌, ◌*ℤ◌}
use Rattle.std.proofs.lemmas.Int.{ints}
use Rattle.std.specs.Prelude.{if◌then◌else◌, nat_le, option_and_then}
use Rattle.std.proofs.lemmas.Bool.Decides.{nat_tests}
use Rattle.std.proofs.lemmas.List.{take_all}
use Rattle.jiff_core.specs.Calendar.{IsBetween, IsDate, IsEpochDay, IsWithin, days_from_civil, days_in_month}
use Rattle.attributes.specs.steps.Time.{IsShaped}
use Rattle.attributes.specs.Time.{after_fraction, are_digits_at, day_at, has_clock, has_date, has_shape, if_in_range, has_byte_at, is_civil, is_day, offset_of, time_day}
use Rattle.attributes.proofs.BoolLemmas.{and_parts}

long_enough : (t : List ℕ) → nat_le 20 (length t) ≡ true → 20 ≤ length t
long_enough t h = grind (arith, nat_tests)

module _ (t : List ℕ) where
  -- what a date has from each of its parts on
  abbrev letter : Bool
  letter = has_byte_at t 10 84 || has_byte_at t 10 116

  abbrev from_day : Bool
  from_day = are_digits_at t 8 && letter

  abbrev from_second_dash : Bool
  from_second_dash = has_byte_at t 7 45 && from_day

  abbrev from_month : Bool
  from_month = are_digits_at t 5 && from_second_dash

  abbrev from_dash : Bool
  from_dash = has_byte_at t 4 45 && from_month

  abbrev from_year : Bool
  from_year = are_digits_at t 2 && from_dash

  abbrev from_second_colon : Bool
  from_second_colon = has_byte_at t 16 58 && are_digits_at t 17

  abbrev from_minute : Bool
  from_minute = are_digits_at t 14 && from_second_colon

  abbrev from_colon : Bool
  from_colon = has_byte_at t 13 58 && from_minute

  pub shaped : has_shape t ≡ true → IsShaped t
  shaped h =
      let all = and_parts (nat_le 20 (length t)) (has_date t && has_clock t) h in
      let parts = and_parts (has_date t) (has_clock t) all.1 in
      let century = and_parts (are_digits_at t 0) from_year parts.0 in
      let year = and_parts (are_digits_at t 2) from_dash century.1 in
      let dash = and_parts (has_byte_at t 4 45) from_month year.1 in
      let month = and_parts (are_digits_at t 5) from_second_dash dash.1 in
      let second_dash = and_parts (has_byte_at t 7 45) from_day month.1 in
      let day = and_parts (are_digits_at t 8) letter second_dash.1 in
      let hour = and_parts (are_digits_at t 11) from_colon parts.1 in
      let colon = and_parts (has_byte_at t 13 58) from_minute hour.1 in
      let minute = and_parts (are_digits_at t 14) from_second_colon colon.1 in
      let second_colon = and_parts (has_byte_at t 16 58) (are_digits_at t 17) minute.1 in
      record {
        long = long_enough t all.0;
        century = century.0;
        year = year.0;
        month = month.0;
        day = day.0;
        hour = hour.0;
        minute = minute.0;
        second = second_colon.1;
      }

-- what follows the clock
pub rest_is : (t : List ℕ) → take (length t - 19) (drop 19 t) ≡ drop 19 t
rest_is t = take_all (length t - 19) (drop 19 t) (omega (arith, length-drop 19 t))

-- a day where the test passes
pub chosen : (b : Bool) (x y : ℤ) → Some x ≡ (if b then Some y else None) → (b ≡ true) × (x ≡ y)
chosen true x y h = (refl, cc)
chosen false x y h = cc

pub unchosen : (b : Bool) (y : ℤ) → None ≡ (if b then Some y else None) → b ≡ false
unchosen true y h = cc
unchosen false y h = refl

abbrev rest_of : List ℕ → Option ℤ
rest_of t = option_and_then (λ offset. if_in_range (day_at t offset)) (option_and_then offset_of (after_fraction (drop 19 t)))

pub timed : (t : List ℕ) → has_shape t ≡ true → is_civil t ≡ true → rest_of t ≡ time_day t
timed t shape civil = sym (ap (λ (b : Bool). if b then rest_of t else None) (ap (λ (b : Bool). b && is_civil t) shape ∙ civil))

pub untimed : (t : List ℕ) → has_shape t ≡ true → is_civil t ≡ false → None ≡ time_day t
untimed t shape civil = sym (ap (λ (b : Bool). if b then rest_of t else None) (ap (λ (b : Bool). b && is_civil t) shape ∙ civil))

-- ---- dates

same_pos : (a b : ℕ) → pos a ≡ pos b → a ≡ b
same_pos a b h = cc

le_true : (a b : ℕ) → a ≤ b → nat_le a b ≡ true
le_true a b h = grind (arith, nat_tests)

day_true : (y m d : ℕ) → IsBetween (pos 1) (pos 12) (pos m) → IsBetween (pos 1) (pos (days_in_month (pos y) m)) (pos d) → is_day y m d ≡ true
day_true y m d h k = rw (le_true 1 m (omega (arith, ints, h.0)), le_true m 12 (omega (arith, ints, h.1)), le_true 1 d (omega (arith, ints, k.0)), le_true d (days_in_month (pos y) m) (omega (arith, ints, k.1))) refl

-- the date that the calendar answers is the one that was asked for
pub day_of : (Y M D : ℤ) (y m d : ℕ) (dy : ℤ) (dm dd : ℕ) (r : ℤ) → Y ≡ pos y → M ≡ pos m → D ≡ pos d → IsDate Y M D → dy ≡ Y → pos dm ≡ M → pos dd ≡ D → r ≡ days_from_civil dy dm dd → Some r ≡ (if is_day y m d then Some (days_from_civil (pos y) m d) else None)
day_of Y M D y m d dy dm dd r ye me de is yy mm dd' rr =
    let asked : IsDate (pos y) (pos m) (pos d) = subst (λ z. IsDate (pos y) (pos m) z) de (subst (λ z. IsDate (pos y) z D) me (subst (λ z. IsDate z M D) ye is)) in
    let month : dm ≡ m = same_pos dm m (mm ∙ me) in
    let day : dd ≡ d = same_pos dd d (dd' ∙ de) in
    let number : r ≡ days_from_civil (pos y) m d = rr ∙ (ap (λ z. days_from_civil z dm dd) (yy ∙ ye) ∙ ap₂ (days_from_civil (pos y)) month day) in
    ap (λ (z : ℤ). Some z) number ∙ sym (ap (λ (b : Bool). if b then Some (days_from_civil (pos y) m d) else None) (day_true y m d asked.1 asked.2))

-- ---- seconds

-- nothing of the sum is lost in 64 bits
pub seconds_of : (day offset a b o : ℤ) (second : ℕ) → IsEpochDay day → second < 1000000 → IsWithin 90000 offset → a ≡ day → b ≡ pos second → o ≡ offset
    → to_z w64 (of_z w64 (to_z w64 (of_z w64 (to_z w64 (of_z w64 (to_z w64 (of_z w64 a) *ℤ pos 86400)) +ℤ to_z w64 (of_z w64 b))) -ℤ to_z w64 (of_z w64 o))) ≡ day *ℤ pos 86400 +ℤ pos second -ℤ offset
seconds_of day offset a b o second h small near is_a is_b is_o = omega (arith, ints, h.0, h.1, near.0, near.1)
