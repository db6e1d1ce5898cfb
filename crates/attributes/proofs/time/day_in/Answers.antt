use Rattle.std.proofs.Common.{◌≡◌, ◌∙◌, pos, FitsSigned, w32, true, ap, sym, rules}
use Rattle.std.proofs.lemmas.Int.{to_z-of_z}
use Rattle.jiff_core.specs.Calendar.{days_from_civil}
use Rattle.attributes.specs.Time.{has_shape, is_civil, time_day, year_of, two_at}
use Rattle.attributes.proofs.TimeLemmas.{shaped, chosen, unchosen, timed, untimed}
use Rattle.attributes.proofs.time.day_in.Goals as goal

pub civil_day-requires : goal.civil_day-requires
civil_day-requires c = shaped c.as_bytes-bytes.result.now (sym c.has_shape.ensures ∙ c.if-not-has_shape.false)

pub zoned_day-requires-clause-shaped : goal.zoned_day-requires-clause-shaped
zoned_day-requires-clause-shaped c = shaped c.as_bytes-bytes.result.now (sym c.has_shape.ensures ∙ c.if-not-has_shape.false)

pub zoned_day-requires-clause-civil : goal.zoned_day-requires-clause-civil
zoned_day-requires-clause-civil c =
    let t = c.as_bytes-bytes.result.now in
    let fits : FitsSigned w32 c.in-Some.day = search rules in
    to_z-of_z w32 c.in-Some.day fits ∙ (chosen (is_civil t) c.in-Some.day (days_from_civil (pos (year_of t)) (two_at t 5) (two_at t 8)) c.in-Some.ensures.day).1

pub returns-in-Some : goal.returns-in-Some
returns-in-Some c =
    let t = c.as_bytes-bytes.result.now in
    let shape : has_shape t ≡ true = sym c.has_shape.ensures ∙ c.if-not-has_shape.false in
    let civil : is_civil t ≡ true = (chosen (is_civil t) c.in-Some.day (days_from_civil (pos (year_of t)) (two_at t 5) (two_at t 8)) c.in-Some.ensures.day).0 in
    c.zoned_day.ensures ∙ (timed t shape civil ∙ ap time_day c.as_bytes-bytes.ensures.value)

pub returns-in-None : goal.returns-in-None
returns-in-None c =
    let t = c.as_bytes-bytes.result.now in
    let shape : has_shape t ≡ true = sym c.has_shape.ensures ∙ c.if-not-has_shape.false in
    untimed t shape (unchosen (is_civil t) (days_from_civil (pos (year_of t)) (two_at t 5) (two_at t 8)) c.in-None.ensures.day) ∙ ap time_day c.as_bytes-bytes.ensures.value
