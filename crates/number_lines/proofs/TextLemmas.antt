-- The texts of lines, one behind the other.
use Rattle.std.proofs.Common.{◌≡◌, ◌≤◌, ◌++◌, ℕ, zero, suc, ◌+◌, List, [], ◌∷◌, length, drop, slice_get, Some, refl, sym, ap, ◌∙◌, append_assoc, append-nil, add-one, arith}
use Rattle.std.proofs.lemmas.List.{drop_all}
use Rattle.attributes.specs.Event.{EventValue}
use Rattle.number_lines.specs.Texts.{fault_text, line_text, numbered_text, refusal_text}
use Rattle.number_lines.specs.declared.refusal.Told.{Told}

item_from : {T : Type 0} (L : List T) (i : ℕ) (x : T) → slice_get L i ≡ Some x → drop i L ≡ x ∷ drop (suc i) L
item_from [] i x is = absurd (cc)
item_from (y ∷ L) zero x is = (let same : y ≡ x = cc in ap (λ z. z ∷ L) same)
item_from (y ∷ L) (suc i) x is = item_from L i x is

item_is : {T : Type 0} (L : List T) (i : ℕ) (x : T) → slice_get L i ≡ Some x → drop i L ≡ x ∷ drop (i + 1) L
item_is L i x is = rw add-one (item_from L i x is)

-- one more, behind those that are written
pub numbered_next : (old new line whole : List ℕ) (tells : List Told) (answers : List (List EventValue)) (i : ℕ) (told : Told) (M : List EventValue) → slice_get tells i ≡ Some told → slice_get answers i ≡ Some M → line ≡ line_text told.fault M → new ≡ old ++ line
    → old ++ numbered_text (drop i tells) (drop i answers) ≡ whole → new ++ numbered_text (drop (i + 1) tells) (drop (i + 1) answers) ≡ whole
numbered_next old new line whole tells answers i told M one two is pushed before =
    let later = numbered_text (drop (i + 1) tells) (drop (i + 1) answers) in
    let parts : numbered_text (drop i tells) (drop i answers) ≡ line ++ later =
    rw (item_is tells i told one, item_is answers i M two) (ap (λ l. l ++ later) (sym is)) in
    ap (λ l. l ++ later) pushed ∙ append_assoc old line later ∙ ap (λ l. old ++ l) (sym parts) ∙ before

-- no more are to come
pub numbered_end : (text whole : List ℕ) (tells : List Told) (answers : List (List EventValue)) (i : ℕ) → length tells ≤ i → text ++ numbered_text (drop i tells) (drop i answers) ≡ whole → text ≡ whole
numbered_end text whole tells answers i high before = sym (append-nil text) ∙ ap (λ (l : List Told). text ++ numbered_text l (drop i answers)) (sym (drop_all i tells high)) ∙ before

pub fault_next : (old new line whole : List ℕ) (tells : List Told) (i : ℕ) (told : Told) → slice_get tells i ≡ Some told → line ≡ refusal_text told.line told.fault → new ≡ old ++ line
    → old ++ fault_text (drop i tells) ≡ whole → new ++ fault_text (drop (i + 1) tells) ≡ whole
fault_next old new line whole tells i told one is pushed before =
    let later = fault_text (drop (i + 1) tells) in
    let parts : fault_text (drop i tells) ≡ line ++ later = rw (item_is tells i told one) (ap (λ l. l ++ later) (sym is)) in
    ap (λ l. l ++ later) pushed ∙ append_assoc old line later ∙ ap (λ l. old ++ l) (sym parts) ∙ before

pub fault_end : (text whole : List ℕ) (tells : List Told) (i : ℕ) → length tells ≤ i → text ++ fault_text (drop i tells) ≡ whole → text ≡ whole
fault_end text whole tells i high before = sym (append-nil text) ∙ ap (λ (l : List Told). text ++ fault_text l) (sym (drop_all i tells high)) ∙ before

-- ---- lines behind lines

pub numbered_join : (tells more : List Told) (answers replies : List (List EventValue)) → length answers ≡ length tells → numbered_text (tells ++ more) (answers ++ replies) ≡ numbered_text tells answers ++ numbered_text more replies
numbered_join [] more [] replies even = refl
numbered_join [] more (M ∷ answers) replies even = absurd (omega (arith, even))
numbered_join (t ∷ tells) more [] replies even = absurd (omega (arith, even))
numbered_join (t ∷ tells) more (M ∷ answers) replies even =
    let line = line_text t.fault M in
    ap (λ l. line ++ l) (numbered_join tells more answers replies (omega (arith, even))) ∙ sym (append_assoc line (numbered_text tells answers) (numbered_text more replies))

pub fault_join : (tells more : List Told) → fault_text (tells ++ more) ≡ fault_text tells ++ fault_text more
fault_join [] more = refl
fault_join (t ∷ tells) more =
    let line = refusal_text t.line t.fault in
    ap (λ l. line ++ l) (fault_join tells more) ∙ sym (append_assoc line (fault_text tells) (fault_text more))
