use Rattle.std.proofs.Common.{◌≡◌, ◌∙◌, ◌*◌, ◌/◌, ◌%◌, ◌^◌, List, ℕ, ap, bit_or, length, length-set, rules, set, subst}
use Rattle.numbers.specs.Filter.{KeepsBits}
use Rattle.numbers.proofs.FilterLemmas.{bit_set}
use Rattle.numbers.proofs.filter.Filter.set_bit_of.Goals as goal

pub returns-clause-has : goal.returns-clause-has
returns-clause-has c =
    let long : c.len.result ≡ length c.self.inside.words.items = search rules in
    (bit_set c.self.inside.words.items c.args.hash c.args.i c.len.result c.place_of-place.result c.index_mut.result.now long c.place_of-place.ensures.value c.place_of-place.ensures.within c.index_mut.ensures.value).0

pub returns-clause-keeps : goal.returns-clause-keeps
returns-clause-keeps c =
    let words = c.self.inside.words.items in
    let long : c.len.result ≡ length words = search rules in
    let place = c.place_of-place.result in
    let new : List ℕ = set words (place / 64) (bit_or c.index_mut.result.now (1 * 2 ^ (place % 64) % 2 ^ 64)) in
    let both = bit_set words c.args.hash c.args.i c.len.result place c.index_mut.result.now long c.place_of-place.ensures.value c.place_of-place.ensures.within c.index_mut.ensures.value in
    subst (λ (old : List ℕ). KeepsBits old new) c.self.view_is both.1

pub returns-clause-long : goal.returns-clause-long
returns-clause-long c = length-set c.self.inside.words.items (c.place_of-place.result / 64) _ ∙ ap length c.self.view_is
