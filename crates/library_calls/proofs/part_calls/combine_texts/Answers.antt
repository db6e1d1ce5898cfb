use Rattle.std.proofs.Common.{◌∙◌, IfErr, List, OnOk, ap, drop, map, subst, sym, take, ℕ}
use Rattle.std.specs.Borrow.{Bor}
use Rattle.parts.specs.Whole.{AreApartIn, ArePartsOf, RefusesParts}
use Rattle.library_calls.proofs.CutLemmas.{first_ones, other_ones}
use Rattle.library_calls.proofs.part_calls.combine_texts.Goals as goal

pub returns-clause-combined : goal.returns-clause-combined
returns-clause-combined c =
    let texts = c.args.texts.now in
    let n = c.args.answers in
    let now : List (Bor (List ℕ)) → List (List ℕ) = map (λ t. t.now) in
    let given = c.split_at.result.0.now in
    let beside = c.split_at.result.1.now in
    let front = first_ones n texts given (c.split_at.ensures.front ∙ ap (λ m. take m texts) c.min-count.ensures) in
    let back = other_ones n texts beside (c.split_at.ensures.back ∙ ap (λ m. drop m texts) c.min-count.ensures) in
    λ p E held parts. c.combine.ensures.combined p E held
    (subst (λ l. ArePartsOf c.args.query p E l (now beside)) (sym front)
    (subst (λ l. ArePartsOf c.args.query p E (take n (now texts)) l) (sym back) parts))

pub returns-clause-apart : goal.returns-clause-apart
returns-clause-apart c =
    let texts = c.args.texts.now in
    let n = c.args.answers in
    let now : List (Bor (List ℕ)) → List (List ℕ) = map (λ t. t.now) in
    let given = c.split_at.result.0.now in
    let beside = c.split_at.result.1.now in
    let front = first_ones n texts given (c.split_at.ensures.front ∙ ap (λ m. take m texts) c.min-count.ensures) in
    let back = other_ones n texts beside (c.split_at.ensures.back ∙ ap (λ m. drop m texts) c.min-count.ensures) in
    subst (λ l. OnOk c.combine.result (AreApartIn c.args.query (take n (now texts)) l)) back
    (subst (λ l. OnOk c.combine.result (AreApartIn c.args.query l (now beside))) front c.combine.ensures.apart)

pub returns-clause-refused : goal.returns-clause-refused
returns-clause-refused c =
    let texts = c.args.texts.now in
    let n = c.args.answers in
    let now : List (Bor (List ℕ)) → List (List ℕ) = map (λ t. t.now) in
    let given = c.split_at.result.0.now in
    let beside = c.split_at.result.1.now in
    let front = first_ones n texts given (c.split_at.ensures.front ∙ ap (λ m. take m texts) c.min-count.ensures) in
    let back = other_ones n texts beside (c.split_at.ensures.back ∙ ap (λ m. drop m texts) c.min-count.ensures) in
    subst (λ l. IfErr c.combine.result (RefusesParts c.args.query (take n (now texts)) l)) back
    (subst (λ l. IfErr c.combine.result (RefusesParts c.args.query l (now beside))) front c.combine.ensures.refused)

pub returns-clause-taken : goal.returns-clause-taken
returns-clause-taken c =
    let texts = c.args.texts.now in
    let n = c.args.answers in
    let now : List (Bor (List ℕ)) → List (List ℕ) = map (λ t. t.now) in
    let given = c.split_at.result.0.now in
    let beside = c.split_at.result.1.now in
    let front = first_ones n texts given (c.split_at.ensures.front ∙ ap (λ m. take m texts) c.min-count.ensures) in
    let back = other_ones n texts beside (c.split_at.ensures.back ∙ ap (λ m. drop m texts) c.min-count.ensures) in
    λ p E held parts. c.combine.ensures.taken p E held
    (subst (λ l. ArePartsOf c.args.query p E l (now beside)) (sym front)
    (subst (λ l. ArePartsOf c.args.query p E (take n (now texts)) l) (sym back) parts))
