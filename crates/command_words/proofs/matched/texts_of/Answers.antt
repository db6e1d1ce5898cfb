use Rattle.std.proofs.Common.{ℕ, List, [], ap, ◌∙◌}
use Rattle.std.proofs.lemmas.List.{take_all}
use Rattle.std.specs.Prelude.{Option, map, unwrap_or}
use Rattle.std.specs.Borrow.{Bor}
use Rattle.clap.specs.Words.{found_of}
use Rattle.clap.proofs.WalkLemmas.{raw_values-rows}
use Rattle.command_words.proofs.matched.texts_of.Goals as goal

pub returns-in_default : goal.returns-in_default
returns-in_default c =
    let matched = c.in_default.ensures ∙ raw_values-rows (found_of c.args.matches.now) c.args.id.now in
    c.empty-texts.ensures ∙ ap (λ (o : Option (List (List ℕ))). unwrap_or o []) matched

pub returns : goal.returns
returns c =
    let matched = c.in-Some.ensures ∙ raw_values-rows (found_of c.args.matches.now) c.args.id.now in
    let whole = take_all c.loop-value.value-index c.in-Some.values.now c.loop-value-test.false in
    c.loop-value.invariant ∙ ap (λ (list : List (Bor (List ℕ))). map (λ v. v.now) list) whole
    ∙ ap (λ (o : Option (List (List ℕ))). unwrap_or o []) matched
