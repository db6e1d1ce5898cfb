-- Acknowledgements, one behind the other.
use Rattle.std.proofs.Common.{◌≡◌, ◌≤◌, ◌++◌, ℕ, zero, suc, ◌+◌, List, [], ◌∷◌, length, drop, slice_get, Some, sym, ap, ◌∙◌, append_assoc, append-nil, add-one}
use Rattle.std.proofs.lemmas.List.{drop_all}
use Rattle.attributes.specs.Event.{EventValue}
use Rattle.line_intake.specs.Answers.{answer_line, answers_text}
use Rattle.line_intake.specs.declared.answer.Told.{Told}

item_from : {T : Type 0} (L : List T) (i : ℕ) (x : T) → slice_get L i ≡ Some x → drop i L ≡ x ∷ drop (suc i) L
item_from [] i x is = absurd (cc)
item_from (y ∷ L) zero x is = (let same : y ≡ x = cc in ap (λ z. z ∷ L) same)
item_from (y ∷ L) (suc i) x is = item_from L i x is

item_is : {T : Type 0} (L : List T) (i : ℕ) (x : T) → slice_get L i ≡ Some x → drop i L ≡ x ∷ drop (i + 1) L
item_is L i x is = rw add-one (item_from L i x is)

-- one more, behind those that are written
pub answers_next : (old new line whole : List ℕ) (tells : List Told) (lists : List (List EventValue)) (each : List ℕ) (i : ℕ) (told : Told) (L : List EventValue) (fresh : ℕ) → slice_get tells i ≡ Some told → slice_get lists i ≡ Some L → slice_get each i ≡ Some fresh
    → line ≡ answer_line told (length L) fresh → new ≡ old ++ line → old ++ answers_text (drop i tells) (drop i lists) (drop i each) ≡ whole → new ++ answers_text (drop (i + 1) tells) (drop (i + 1) lists) (drop (i + 1) each) ≡ whole
answers_next old new line whole tells lists each i told L fresh one two three is pushed before =
    let later = answers_text (drop (i + 1) tells) (drop (i + 1) lists) (drop (i + 1) each) in
    let parts : answers_text (drop i tells) (drop i lists) (drop i each) ≡ line ++ later =
    rw (item_is tells i told one, item_is lists i L two, item_is each i fresh three) (ap (λ l. l ++ later) (sym is)) in
    ap (λ l. l ++ later) pushed ∙ append_assoc old line later ∙ ap (λ l. old ++ l) (sym parts) ∙ before

-- no more are to come
pub answers_end : (text whole : List ℕ) (tells : List Told) (lists : List (List EventValue)) (each : List ℕ) (i : ℕ) → length tells ≤ i → text ++ answers_text (drop i tells) (drop i lists) (drop i each) ≡ whole → text ≡ whole
answers_end text whole tells lists each i high before = sym (append-nil text) ∙ ap (λ (l : List Told). text ++ answers_text l (drop i lists) (drop i each)) (sym (drop_all i tells high)) ∙ before
