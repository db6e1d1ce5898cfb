use Rattle.std.proofs.Common.{◌∙◌, List, ap, inl, inr, rules, subst, ℕ}
use Rattle.library_calls.specs.Parts.{IsNoPartText, no_text}
use Rattle.library_calls.proofs.CutLemmas.{all_there}
use Rattle.library_calls.proofs.part_calls.whole_of.Goals as goal

pub returns-in-Err-NoText-clause-refused : goal.returns-in-Err-NoText-clause-refused
returns-in-Err-NoText-clause-refused c =
    let none = subst (λ (l : List ℕ). IsNoPartText c.args.bytes.now l c.in-Err-NoText.i) c.lengths_of-looked_at.ensures
    (c.in-Err-NoText.ensures.err c.in-Err-NoText.i (search rules)) in
    let same = ap (λ k. no_text c.args.query c.args.answers k) c.in-Err-NoText.i-is in
    inr (inl (c.in-Err-NoText.i, c.no_text.ensures ∙ same, none))

pub returns-in-Err-NoText-clause-taken : goal.returns-in-Err-NoText-clause-taken
returns-in-Err-NoText-clause-taken c =
    let none = subst (λ (l : List ℕ). IsNoPartText c.args.bytes.now l c.in-Err-NoText.i) c.lengths_of-looked_at.ensures
    (c.in-Err-NoText.ensures.err c.in-Err-NoText.i (search rules)) in
    λ given p E held parts. absurd (all_there c.args.bytes.now _ c.in-Err-NoText.i given.0 given.1 none)
