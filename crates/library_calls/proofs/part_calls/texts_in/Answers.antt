use Rattle.std.proofs.Common.{arith, ◌≡◌, ◌∙◌, ◌++◌, ◌≤◌, ℕ, List, Some, [], ◌∷◌, ap, drop, get_or, inl, inr, length, map, sum, sym, take}
use Rattle.std.specs.Borrow.{Bor}
use Rattle.std.proofs.lemmas.List.{drop-drop, map-append}
use Rattle.std.proofs.lemmas.Option.{slice_get-get_or}
use Rattle.library_calls.specs.Parts.{cut}
use Rattle.library_calls.proofs.CutLemmas.{cut_at, cut_more, sum_more, text_at, told}
use Rattle.library_calls.proofs.part_calls.texts_in.Goals as goal

pub returns-then-length-rest-clause-err : goal.returns-then-length-rest-clause-err
returns-then-length-rest-clause-err c =
    let lengths = c.args.lengths.now in
    let i = c.loop-i.i in
    let inside = c.loop-i-test.true in
    let inv = c.loop-i.invariant in
    let more = sum_more lengths i inside in
    λ j same. told c.args.bytes.now lengths i j
    (_, slice_get-get_or lengths i 0 inside, inl (omega (arith, more, inv.2, c.if-length-rest.true))) same

pub returns-in-Err-clause-err : goal.returns-in-Err-clause-err
returns-in-Err-clause-err c =
    let bytes = c.args.bytes.now in
    let lengths = c.args.lengths.now in
    let i = c.loop-i.i in
    let inside = c.loop-i-test.true in
    let inv = c.loop-i.invariant in
    let is = c.split_at.ensures.front ∙ ap (λ (l : List ℕ). take (get_or lengths i 0) l) inv.1 in
    λ j same. told bytes lengths i j
    (_, slice_get-get_or lengths i 0 inside, inr (_, cut_at bytes lengths i inside ∙ ap Some (sym is), c.in-Err.ensures.cases.0)) same

pub loop-i-preserved : goal.loop-i-preserved
loop-i-preserved c =
    let bytes = c.args.bytes.now in
    let lengths = c.args.lengths.now in
    let i = c.loop-i.i in
    let inside = c.loop-i-test.true in
    let inv = c.loop-i.invariant in
    let n = get_or lengths i 0 in
    let more = sum_more lengths i inside in
    let fits : n ≤ length c.loop-i.rest.now = omega (arith, c.if-length-rest.false) in
    let is = c.split_at.ensures.front ∙ ap (λ (l : List ℕ). take n l) inv.1 in
    let text : c.in-Ok.text.now ≡ text_at bytes lengths i = c.in-Ok.ensures.cases.0 ∙ is in
    let pushed = ap (λ (l : List (Bor (List ℕ))). map (λ t. t.now) l) c.in_ok-push-in-Ok.ensures.items
    ∙ map-append (λ (t : Bor (List ℕ)). t.now) c.loop-i.texts.items (c.in-Ok.text ∷ []) in (
      pushed ∙ ap (λ (l : List (List ℕ)). l ++ c.in-Ok.text.now ∷ []) inv.0
          ∙ ap (λ (t : List ℕ). cut bytes (take i lengths) ++ t ∷ []) text ∙ sym (cut_more bytes lengths i inside),
      c.split_at.ensures.back ∙ ap (λ (l : List ℕ). drop n l) inv.1 ∙ drop-drop n (sum (take i lengths)) bytes
          ∙ ap (λ m. drop m bytes) (sym more),
      omega (arith, more, inv.2, c.split_at.ensures.back_len, fits),
    )
