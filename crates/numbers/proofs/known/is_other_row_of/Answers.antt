use Rattle.std.proofs.Common.{◌≡◌, arith}
use Rattle.numbers.proofs.UncountedLemmas.{number_is}
use Rattle.numbers.proofs.known.is_other_row_of.Goals as goal

pub returns : goal.returns
returns c =
    let e = c.args.event.now in
    let x = c.args.row.now in
    let is = c.in_ok-is_row_of.ensures.0 c.if-not-branch.false in (
      λ equal m one. (let its : m ≡ c.number.result = number_is e x m c.number.result one c.number.ensures in
          grind (arith, its, equal, c.number-2.ensures.value, c.number-3.ensures.value)),
      λ none. (let its : is.0 ≡ c.number.result = number_is e x is.0 c.number.result is.1 c.number.ensures in
          let same : is.0 ≡ c.args.number = none is.0 is.1 in
          grind (arith, its, same, c.number-2.ensures.value, c.number-3.ensures.value)),
    )
