use Rattle.std.proofs.Common.{◌∙◌, sym, ap, FitsSigned, w32, rules}
use Rattle.std.proofs.lemmas.Int.{to_z-of_z}
use Rattle.views.specs.Day.{is_day_number}
use Rattle.views.proofs.DayLemmas.{day_of_is_day}
use Rattle.views.proofs.day.Day.of_event.Goals as goal

pub of-requires : goal.of-requires
of-requires c =
    let fits : FitsSigned w32 c.in-Some.number = search rules in
    let same = to_z-of_z w32 c.in-Some.number fits in
    ap is_day_number same ∙ day_of_is_day c.args.event.now c.in-Some.number (sym c.day.ensures ∙ c.in-Some.is)
