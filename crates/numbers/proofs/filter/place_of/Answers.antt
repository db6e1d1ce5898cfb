use Rattle.std.proofs.Common.{◌+◌, ◌*◌, ◌/◌, ◌%◌, ◌<◌, ℕ, arith}
use Rattle.std.proofs.lemmas.Nat.{mod_below}
use Rattle.numbers.proofs.filter.place_of.Goals as goal

pub returns-clause-within : goal.returns-clause-within
returns-clause-within c =
    let bits : ℕ = 64 * c.args.words in
    let sum : ℕ = c.args.hash % bits + c.args.i * (c.args.hash / bits % bits) in
    let below : sum % bits < 64 * c.args.words = mod_below sum bits (omega (arith, c.requires.some)) in
    omega (arith, below)
