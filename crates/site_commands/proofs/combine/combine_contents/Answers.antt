use Rattle.std.proofs.Common.{IfErr, List, inl, inr, map, refl, rules, subst, ap, ◌∙◌, ℕ}
use Rattle.std.specs.Borrow.{Bor}
use Rattle.site_commands.specs.Parts.{RefusesContents}
use Rattle.site_commands.proofs.combine.combine_contents.Goals as goal

pub returns-in-Err-NoText-texts_in-clause-refused : goal.returns-in-Err-NoText-texts_in-clause-refused
returns-in-Err-NoText-texts_in-clause-refused c =
    inr (inr (inl (_, refl, c.in-Err-NoText-texts_in.ensures.err _ (search rules))))

pub returns-clause-refused : goal.returns-clause-refused
returns-clause-refused c =
    let answers = ap (λ (list : List (Bor (List ℕ))). map (λ t. t.now) list) c.as_slice.ensures.value ∙ c.in-Ok.ensures.ok in
    let covers = ap (λ (list : List (Bor (List ℕ))). map (λ t. t.now) list) c.as_slice-2.ensures.value ∙ c.in-Ok-texts_in.ensures.ok in
    subst (λ (l : List (List ℕ)). IfErr c.combine_texts.result (λ b. RefusesContents c.args.query c.args.answers.now l b.fault)) covers
    (subst (λ (l : List (List ℕ)). IfErr c.combine_texts.result (λ b. RefusesContents c.args.query l (map (λ t. t.now) c.as_slice-2.result.now) b.fault)) answers
    c.combine_texts.ensures.refused)
