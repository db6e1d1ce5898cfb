-- The lines on events that `number` refuses.
use Rattle.std.proofs.Common.{◌≡◌, ◌↔◌, ◌≤◌, ◌+◌, ℕ, suc, List, [], ◌∷◌, ◌++◌, length, drop, drop_of_length-le, slice_get, Option, Some, None, refl, sym, ap, ◌∙◌, inl, inr, add-one, append_assoc, append-nil}
use Rattle.std.specs.Option.{option_or}
use Rattle.attributes.specs.Event.{EventValue}
use Rattle.event_json.specs.Reading.{Reads, Refuses}
use Rattle.event_json.specs.declared.fault.ReadFault.{ReadFault}
use Rattle.fault_lines.specs.Lines.{IsReadingText}
use Rattle.numbers.specs.Refusal.{refusal_at, refusal_from}
use Rattle.numbers.specs.declared.fault.NumberFault.{NumberFault}
use Rattle.numbers.proofs.BatchLemmas.{drop_at}
use Rattle.site_commands.specs.Checks.{CanBeNumbered, TellsForNumber, refusal_line, refusal_lines, with_refusal}

-- ---- one event more

next : (name : List ℕ) (es : List EventValue) (i : ℕ) (e : EventValue) (o : Option NumberFault) → slice_get es i ≡ Some e → refusal_at i e ≡ o
    → refusal_lines name i (drop i es) ≡ with_refusal name i e o (refusal_lines name (i + 1) (drop (i + 1) es))
next name es i e o here is =
    ap (refusal_lines name i) (drop_at es i e here)
    ∙ ap (λ p. with_refusal name i e p (refusal_lines name (suc i) (drop (i + 1) es))) is
    ∙ ap (λ n. with_refusal name i e o (refusal_lines name n (drop (i + 1) es))) (sym (add-one i))

pub line_more : (name : List ℕ) (es : List EventValue) (i : ℕ) (e : EventValue) (why : NumberFault) (before line text : List ℕ)
    → slice_get es i ≡ Some e → Some why ≡ refusal_at i e → line ≡ refusal_line name i e why → text ≡ before ++ line
    → before ++ refusal_lines name i (drop i es) ≡ refusal_lines name 0 es → text ++ refusal_lines name (i + 1) (drop (i + 1) es) ≡ refusal_lines name 0 es
line_more name es i e why before line text here is is_line grown h =
    let rest = refusal_lines name (i + 1) (drop (i + 1) es) in
    ap (λ t. t ++ rest) (grown ∙ ap (λ l. before ++ l) is_line)
    ∙ append_assoc before (refusal_line name i e why) rest
    ∙ ap (λ l. before ++ l) (sym (next name es i e (Some why) here (sym is)))
    ∙ h

pub no_line : (name : List ℕ) (es : List EventValue) (i : ℕ) (e : EventValue) (text : List ℕ) → slice_get es i ≡ Some e → None ≡ refusal_at i e
    → text ++ refusal_lines name i (drop i es) ≡ refusal_lines name 0 es → text ++ refusal_lines name (i + 1) (drop (i + 1) es) ≡ refusal_lines name 0 es
no_line name es i e text here none h = ap (λ l. text ++ l) (sym (next name es i e None here (sym none))) ∙ h

pub all_lines : (name : List ℕ) (es : List EventValue) (i : ℕ) (text : List ℕ) → length es ≤ i → text ++ refusal_lines name i (drop i es) ≡ refusal_lines name 0 es → text ≡ refusal_lines name 0 es
all_lines name es i text past h = sym (append-nil text) ∙ ap (λ l. text ++ refusal_lines name i l) (sym (drop_of_length-le es past)) ∙ h

-- ---- nothing is said

some_said : (name : List ℕ) (i : ℕ) (e : EventValue) (why : NumberFault) (rest : List ℕ) → [] ≡ refusal_line name i e why ++ rest → ⊥
some_said name i e why rest h = cc

quiet_event : (name : List ℕ) (i : ℕ) (e : EventValue) (o : Option NumberFault) (rest : List ℕ) → [] ≡ with_refusal name i e o rest → (o ≡ None) × ([] ≡ rest)
quiet_event name i e None rest h = (refl, h)
quiet_event name i e (Some why) rest h = absurd (some_said name i e why rest h)

quiet : (name : List ℕ) (i : ℕ) (es : List EventValue) → [] ≡ refusal_lines name i es → refusal_from i es ≡ None
quiet name i [] h = refl
quiet name i (e ∷ es) h =
    let here = quiet_event name i e (refusal_at i e) (refusal_lines name (suc i) es) h in
    ap (λ o. option_or o (refusal_from (suc i) es)) here.0 ∙ quiet name (suc i) es here.1

neither : (a b : Option NumberFault) → option_or a b ≡ None → (a ≡ None) × (b ≡ None)
neither None b h = (refl, h)
neither (Some f) b h = absurd (cc)

unrefused : (name : List ℕ) (i : ℕ) (es : List EventValue) → refusal_from i es ≡ None → refusal_lines name i es ≡ []
unrefused name i [] h = refl
unrefused name i (e ∷ es) h =
    let both = neither (refusal_at i e) (refusal_from (suc i) es) h in
    ap (λ o. with_refusal name i e o (refusal_lines name (suc i) es)) both.0 ∙ unrefused name (suc i) es both.1

module _ (one : (b : List ℕ) (l m : List EventValue) → Reads b l → Reads b m → l ≡ m)
    (apart : (b : List ℕ) (l : List EventValue) (f : ReadFault) → Reads b l → Refuses b f → ⊥)
    (readable : (name b text : List ℕ) → IsReadingText name b text → (text ≡ []) ↔ ((events : List EventValue) × Reads b events))
    (name b text : List ℕ) where
  pub numbered_if_quiet : TellsForNumber name b text → text ≡ [] → CanBeNumbered b
  numbered_if_quiet (inl t) none = (t.0, t.1, quiet name 0 t.0 (sym none ∙ t.2))
  numbered_if_quiet (inr t) none = let read = (readable name b text t.2).0 none in absurd (apart b read.0 t.0 read.1 t.1)

  pub quiet_if_numbered : TellsForNumber name b text → CanBeNumbered b → text ≡ []
  quiet_if_numbered (inl t) g = t.2 ∙ ap (refusal_lines name 0) (one b t.0 g.0 t.1 g.1) ∙ unrefused name 0 g.0 g.2
  quiet_if_numbered (inr t) g = absurd (apart b g.0 t.0 g.1 t.1)
