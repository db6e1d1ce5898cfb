use Rattle.std.proofs.Common.{◌∙◌, ℕ, subst}
use Rattle.numbers.specs.Filter.{HasBitOf}
use Rattle.numbers.proofs.FilterLemmas.{bit_kept, text_kept}
use Rattle.numbers.proofs.filter.Filter.add.Goals as goal

pub returns-clause-has : goal.returns-clause-has
returns-clause-has c =
    let one = c.set_bit_of.new.self in
    let two = c.set_bit_of-2.new.self in
    let three = c.set_bit_of-3.new.self in
    let hash = c.hash_of-hash.result in
    let second = c.set_bit_of-2.ensures in
    let third = c.set_bit_of-3.ensures in
    subst (λ (h : ℕ). HasBitOf three h 0 × HasBitOf three h 1 × HasBitOf three h 2) c.hash_of-hash.ensures (
      bit_kept two three hash 0 third.long third.keeps (bit_kept one two hash 0 second.long second.keeps c.set_bit_of.ensures.has),
      bit_kept two three hash 1 third.long third.keeps second.has,
      third.has,
    )

pub returns-clause-keeps : goal.returns-clause-keeps
returns-clause-keeps c =
    let first = c.set_bit_of.ensures in
    let second = c.set_bit_of-2.ensures in
    let third = c.set_bit_of-3.ensures in
    text_kept c.args.self.now c.set_bit_of-3.new.self (third.long ∙ second.long ∙ first.long) (λ p has. third.keeps p (second.keeps p (first.keeps p has)))
