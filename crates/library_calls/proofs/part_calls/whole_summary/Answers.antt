use Rattle.std.proofs.Common.{◌≤◌, ◌∙◌, List, ap, inl, inr, length, map, rules, subst, sum, sym, ℕ}
use Rattle.std.specs.Borrow.{Bor}
use Rattle.parts.specs.Summaries.{AreSummaries}
use Rattle.parts.specs.declared.fault.CombineFault.TheVariants as fault
use Rattle.library_calls.specs.Parts.{IsNoPartText, cut}
use Rattle.library_calls.proofs.CutLemmas.{all_there, summed_up}
use Rattle.library_calls.proofs.part_calls.whole_summary.Goals as goal

pub returns-in-Err-NoText-clause-refused : goal.returns-in-Err-NoText-clause-refused
returns-in-Err-NoText-clause-refused c =
    let none = subst (λ (l : List ℕ). IsNoPartText c.args.bytes.now l c.in-Err-NoText.part) c.first_lengths-looked_at.ensures
    (c.in-Err-NoText.ensures.err c.in-Err-NoText.part (search rules)) in
    inr (inl (c.in-Err-NoText.part, ap (λ k. fault.NotAnAnswer k) c.in-Err-NoText.part-is, none))

pub returns-in-Err-NoText-clause-taken : goal.returns-in-Err-NoText-clause-taken
returns-in-Err-NoText-clause-taken c =
    let none = subst (λ (l : List ℕ). IsNoPartText c.args.bytes.now l c.in-Err-NoText.part) c.first_lengths-looked_at.ensures
    (c.in-Err-NoText.ensures.err c.in-Err-NoText.part (search rules)) in
    λ given p E parts. absurd (all_there c.args.bytes.now _ c.in-Err-NoText.part given.0 given.1 none)

pub returns-in-Ok-clause-whole : goal.returns-in-Ok-clause-whole
returns-in-Ok-clause-whole c =
    let bytes = c.args.bytes.now in
    let now : List (Bor (List ℕ)) → List (List ℕ) = map (λ t. t.now) in
    let same = ap now c.as_slice.ensures.value ∙ c.in-Ok.ensures.ok ∙ ap (λ (l : List ℕ). cut bytes l) c.first_lengths-looked_at.ensures in
    let fits = subst (λ (l : List ℕ). sum l ≤ length bytes) c.first_lengths-looked_at.ensures c.in-Ok.ensures.fit in
    summed_up _ _ c.combine_summaries.result same fits c.combine_summaries.ensures.combined c.combine_summaries.ensures.apart

pub returns-in-Ok-clause-taken : goal.returns-in-Ok-clause-taken
returns-in-Ok-clause-taken c =
    let bytes = c.args.bytes.now in
    let now : List (Bor (List ℕ)) → List (List ℕ) = map (λ t. t.now) in
    let same = ap now c.as_slice.ensures.value ∙ c.in-Ok.ensures.ok ∙ ap (λ (l : List ℕ). cut bytes l) c.first_lengths-looked_at.ensures in
    λ there p E parts. c.combine_summaries.ensures.taken p E (subst (AreSummaries p E) (sym same) parts)
