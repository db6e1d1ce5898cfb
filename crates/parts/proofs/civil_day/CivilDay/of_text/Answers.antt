use Rattle.std.proofs.Common.{◌∙◌, FitsSigned, Some, ap, rules, sym, w32}
use Rattle.std.proofs.lemmas.Int.{to_z-of_z}
use Rattle.jiff_core.specs.Date.{epoch_day}
use Rattle.jiff_fmt.specs.Temporal.{parse_date}
use Rattle.parts.proofs.DayLemmas.{date_read, no_date, ok_one}
use Rattle.parts.proofs.civil_day.CivilDay.of_text.Goals as goal

pub returns-in-Ok : goal.returns-in-Ok
returns-in-Ok c day is =
    let r = date_read c.parse_date.result c.args.text.now day (c.parse_date.ensures ∙ ap parse_date c.as_bytes.ensures.value) is in
    let same = ok_one c.in-Ok.date r.0 (sym c.in-Ok.is ∙ r.1) in
    let fits : FitsSigned w32 c.to_unix_epoch_day.result = search rules in
    ap Some (to_z-of_z w32 c.to_unix_epoch_day.result fits ∙ c.to_unix_epoch_day.ensures.value ∙ ap epoch_day same ∙ r.2)

pub returns-in-Err : goal.returns-in-Err
returns-in-Err c day is =
    let r = date_read c.parse_date.result c.args.text.now day (c.parse_date.ensures ∙ ap parse_date c.as_bytes.ensures.value) is in
    absurd (no_date r.0 c.in-Err.field-0 (sym r.1 ∙ c.in-Err.is))
