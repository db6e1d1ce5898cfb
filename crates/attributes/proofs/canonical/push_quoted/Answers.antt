use Rattle.std.proofs.Common.{◌≡◌, ◌∙◌, ◌+◌, ◌∷◌, ◌++◌, [], ℕ, List, ap, append_assoc, length, arith, string_bytes}
use Rattle.attributes.proofs.PlaceLemmas.{in_span_pushed, span_pushed}
use Rattle.attributes.proofs.canonical.push_quoted.Goals as goal

pushed : (old text one two new : List ℕ) → one ≡ old ++ 34 ∷ [] → two ≡ one ++ text → new ≡ two ++ 34 ∷ [] → new ≡ old ++ 34 ∷ (text ++ 34 ∷ [])
pushed old text one two new a b e = e ∙ (ap (λ (l : List ℕ). l ++ 34 ∷ []) (b ∙ ap (λ (l : List ℕ). l ++ text) a) ∙ (append_assoc (old ++ 34 ∷ []) text (34 ∷ []) ∙ append_assoc old (34 ∷ []) (text ++ 34 ∷ [])))

pub returns-clause-text : goal.returns-clause-text
returns-clause-text c = pushed (string_bytes c.args.out.now) c.args.text.now (string_bytes c.push_str.new.self) (string_bytes c.push_str-2.new.self) (string_bytes c.push_str-3.new.self) c.in_ok-push_str.ensures.bytes c.in_ok-push_str-2.ensures.bytes c.in_ok-push_str-3.ensures.bytes

pub returns-clause-span : goal.returns-clause-span
returns-clause-span c =
    let old = string_bytes c.args.out.now in
    let text = c.args.text.now in
    let new = string_bytes c.push_str-3.new.self in
    let start : c.len-before.result + 1 ≡ length old + 1 = omega (arith, c.len-before.ensures) in
    let end : c.len-before.result + 1 + length text ≡ length old + 1 + length text = omega (arith, c.len-before.ensures) in
    span_pushed old text new (record { start = c.len-before.result + 1; end = c.len-before.result + 1 + length text }) start end (pushed old text (string_bytes c.push_str.new.self) (string_bytes c.push_str-2.new.self) new c.in_ok-push_str.ensures.bytes c.in_ok-push_str-2.ensures.bytes c.in_ok-push_str-3.ensures.bytes)

pub returns-clause-shows : goal.returns-clause-shows
returns-clause-shows c =
    let old = string_bytes c.args.out.now in
    let text = c.args.text.now in
    let new = string_bytes c.push_str-3.new.self in
    let start : c.len-before.result + 1 ≡ length old + 1 = omega (arith, c.len-before.ensures) in
    let end : c.len-before.result + 1 + length text ≡ length old + 1 + length text = omega (arith, c.len-before.ensures) in
    in_span_pushed old text new (record { start = c.len-before.result + 1; end = c.len-before.result + 1 + length text }) start end (pushed old text (string_bytes c.push_str.new.self) (string_bytes c.push_str-2.new.self) new c.in_ok-push_str.ensures.bytes c.in_ok-push_str-2.ensures.bytes c.in_ok-push_str-3.ensures.bytes)
