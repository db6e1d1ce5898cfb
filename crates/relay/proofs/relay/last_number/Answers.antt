use Rattle.std.proofs.Common.{◌≡◌, ◌-◌, length, slice_get, Some, ap, ◌∙◌, sym}
use Rattle.attributes.specs.Sequence.{number_of}
use Rattle.relay.proofs.LastLemmas.{last_is}
use Rattle.relay.proofs.relay.last_number.Goals as goal

pub returns : goal.returns
returns c =
    let at : slice_get c.args.rows.now (length c.args.rows.now - 1) ≡ Some c.at.result.now = rw c.len-count.ensures at c.at.ensures in
    let is : number_of c.at.result.now ≡ Some c.number-2.result = c.number.ensures ∙ ap (λ n. Some n) (sym c.number-2.ensures.value) in
    last_is c.args.mark c.args.rows.now c.at.result.now c.number-2.result at is
