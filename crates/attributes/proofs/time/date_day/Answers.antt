use Rattle.std.proofs.Common.{◌≡◌, ◌∙◌, ℤ, pos, Some, ap, refl, FitsSigned, w32, w16, w8, to_z, rules, arith}
use Rattle.std.proofs.lemmas.Int.{to_z-of_z, ints}
use Rattle.jiff_core.specs.Date.{epoch_day}
use Rattle.attributes.proofs.TimeLemmas.{day_of}
use Rattle.attributes.proofs.time.date_day.Goals as goal

pub returns-in-Ok-clause-day : goal.returns-in-Ok-clause-day
returns-in-Ok-clause-day c =
    let fits : FitsSigned w32 c.to_unix_epoch_day.result = search rules in
    let value = c.in-Ok.ensures.value in
    let is = c.in-Ok.ensures.succeeds in
    let y : to_z w16 c.args.year ≡ pos c.args.year = omega (arith, ints, c.requires.years) in
    let m : to_z w8 c.args.month ≡ pos c.args.month = omega (arith, ints, c.requires.months) in
    let d : to_z w8 c.args.day ≡ pos c.args.day = omega (arith, ints, c.requires.days) in
    ap (λ (z : ℤ). Some z) (to_z-of_z w32 c.to_unix_epoch_day.result fits)
    ∙ day_of (to_z w16 c.args.year) (to_z w8 c.args.month) (to_z w8 c.args.day) c.args.year c.args.month c.args.day c.in-Ok.date.year c.in-Ok.date.month c.in-Ok.date.day c.to_unix_epoch_day.result y m d (is.0 refl) value.0 value.1 value.2 (c.to_unix_epoch_day.ensures.value ∙ ap epoch_day c.to_plain.ensures)
