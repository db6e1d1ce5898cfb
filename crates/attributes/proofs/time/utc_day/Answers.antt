use Rattle.std.proofs.Common.{◌∙◌, pos, ap, FitsSigned, w32, w64, rules}
use Rattle.std.proofs.lemmas.Int.{to_z-of_z}
use Rattle.std.specs.Int.{int_div_euclid}
use Rattle.attributes.specs.Time.{if_in_range}
use Rattle.attributes.proofs.TimeLemmas.{seconds_of}
use Rattle.attributes.proofs.time.utc_day.Goals as goal

pub returns : goal.returns
returns c =
    let day_is = c.from.ensures ∙ to_z-of_z w32 c.args.day c.ranges.day in
    let offset_is = c.from-3.ensures ∙ to_z-of_z w32 c.args.offset c.ranges.offset in
    let fits : FitsSigned w64 c.div_euclid.result = search rules in
    let seconds = seconds_of c.args.day c.args.offset c.from.result c.from-2.result c.from-3.result c.args.second c.requires.date c.requires.seconds c.requires.near day_is c.from-2.ensures offset_is in
    c.if_in_range.ensures ∙ (ap if_in_range (to_z-of_z w64 c.div_euclid.result fits) ∙ ap if_in_range (c.div_euclid.ensures ∙ ap (λ z. int_div_euclid z (pos 86400)) seconds))
