-- A step of the loops over the members of a batch.
use Rattle.std.proofs.Common.{◌≡◌, ℕ, zero, suc, ◌+◌, ◌<◌, ◌≤◌, List, [], ◌∷◌, ◌++◌, length, map, drop, eqb, Bool, true, false, Some, slice_get, IsUtf8, refl, sym, ap, ◌∙◌, subst, arith, append_assoc, append-nil, drop_of_length-le, add-one, length-append, ne_eqb, eq-eqb}
use Rattle.std.specs.List.{AllByRecursion, join_with_byte}
use Rattle.std.specs.Str.{IsAscii}
use Rattle.std.proofs.lemmas.List.Elements.{All-from_recursion}
use Rattle.std.proofs.lemmas.Str.{IsUtf8-append, IsUtf8-from_ascii, IsUtf8-nil}
use Rattle.std.proofs.lemmas.Str.Ascii.{IsAscii-from_all}
use Rattle.attributes.specs.Event.{EventValue, text}
use Rattle.attributes.specs.Fault.{IsEvent}
use Rattle.event_json.specs.BatchText.{batch_text}
use Rattle.event_json.specs.steps.Joined.{separated, joined}

-- ---- joined from the front

joined-after : (t : List ℕ) (es : List EventValue) → t ++ joined false es ≡ join_with_byte 44 (t ∷ map text es)
joined-after t [] = append-nil t
joined-after t (e ∷ es) = ap (λ r. t ++ 44 ∷ r) (joined-after (text e) es)

joined-all : (es : List EventValue) → joined true es ≡ join_with_byte 44 (map text es)
joined-all [] = refl
joined-all (e ∷ es) = joined-after (text e) es

pub batch_text-joined : (es : List EventValue) → batch_text es ≡ 91 ∷ (joined true es ++ 93 ∷ [])
batch_text-joined es = ap (λ r. 91 ∷ (r ++ 93 ∷ [])) (sym (joined-all es))

pub length-batch_text : (es : List EventValue) → length (batch_text es) ≡ 2 + length (joined true es)
length-batch_text es = ap length (batch_text-joined es) ∙ omega (arith, length-append (joined true es) (93 ∷ []))

-- ---- a step

drop_here : (es : List EventValue) (i : ℕ) (e : EventValue) → slice_get es i ≡ Some e → drop i es ≡ e ∷ drop (suc i) es
drop_here [] i e h = absurd (cc)
drop_here (x ∷ es) zero e h = let same : x ≡ e = cc in ap (λ y. y ∷ es) same
drop_here (x ∷ es) (suc i) e h = drop_here es i e h

-- the members from i on are the one there and those after it
pub drop_at : (es : List EventValue) (i : ℕ) (e : EventValue) → slice_get es i ≡ Some e → drop i es ≡ e ∷ drop (i + 1) es
drop_at es i e h = drop_here es i e h ∙ ap (λ n. e ∷ drop n es) (sym (add-one i))

no_first : (i : ℕ) → eqb (i + 1) 0 ≡ false
no_first i = ne_eqb (i + 1) 0 (λ e. omega (arith, e))

-- the text of the member at i joins what is written
pub write_step : (es : List EventValue) (i : ℕ) (e : EventValue) (out new all : List ℕ) → slice_get es i ≡ Some e → new ≡ out ++ separated (eqb i 0) (text e)
    → out ++ joined (eqb i 0) (drop i es) ≡ all → new ++ joined (eqb (i + 1) 0) (drop (i + 1) es) ≡ all
write_step es i e out new all here is_new h =
    let rest = joined false (drop (i + 1) es) in
    ap (λ f. new ++ joined f (drop (i + 1) es)) (no_first i)
    ∙ ap (λ o. o ++ rest) is_new
    ∙ append_assoc out (separated (eqb i 0) (text e)) rest
    ∙ ap (λ ds. out ++ joined (eqb i 0) ds) (sym (drop_at es i e here))
    ∙ h

-- where all from the next on are events, all from i on are
pub events_step : (es : List EventValue) (i : ℕ) (e : EventValue) → slice_get es i ≡ Some e → IsEvent e
    → (AllByRecursion IsEvent (drop i es) → AllByRecursion IsEvent es) → AllByRecursion IsEvent (drop (i + 1) es) → AllByRecursion IsEvent es
events_step es i e here is before rest = before (subst (AllByRecursion IsEvent) (sym (drop_at es i e here)) (is, rest))

pub length-separated_first : (i : ℕ) (t : List ℕ) → i ≤ 0 → length (separated (eqb i 0) t) ≡ length t
length-separated_first i t h = ap (λ f. length (separated f t)) (eq-eqb i 0 (omega arith))

pub length-separated_later : (i : ℕ) (t : List ℕ) → 0 < i → length (separated (eqb i 0) t) ≡ length t + 1
length-separated_later i t h = ap (λ f. length (separated f t)) (ne_eqb i 0 (λ e. omega (arith, e))) ∙ sym (add-one (length t))

-- the length of the member at i joins the sum
pub length_step : (es : List EventValue) (i : ℕ) (e : EventValue) (len new all : ℕ) → slice_get es i ≡ Some e → new ≡ len + length (separated (eqb i 0) (text e))
    → len + length (joined (eqb i 0) (drop i es)) ≡ all → new + length (joined (eqb (i + 1) 0) (drop (i + 1) es)) ≡ all
length_step es i e len new all here is_new h =
    let rest = joined false (drop (i + 1) es) in
    let later : length (joined (eqb (i + 1) 0) (drop (i + 1) es)) ≡ length rest = ap (λ f. length (joined f (drop (i + 1) es))) (no_first i) in
    let whole : length (joined (eqb i 0) (drop i es)) ≡ length (separated (eqb i 0) (text e)) + length rest =
    ap (λ ds. length (joined (eqb i 0) ds)) (drop_at es i e here) ∙ length-append (separated (eqb i 0) (text e)) rest in
    omega arith

-- ---- the end of the list

pub all_written : (es : List EventValue) (i : ℕ) (out new : List ℕ) → length es ≤ i → out ++ joined (eqb i 0) (drop i es) ≡ 91 ∷ joined true es → new ≡ out ++ 93 ∷ [] → new ≡ batch_text es
all_written es i out new past h is_new =
    let whole : out ≡ 91 ∷ joined true es =
    sym (append-nil out) ∙ ap (λ ds. out ++ joined (eqb i 0) ds) (sym (drop_of_length-le es past)) ∙ h in
    is_new ∙ ap (λ o. o ++ 93 ∷ []) whole ∙ sym (batch_text-joined es)

pub all_events : (es : List EventValue) (i : ℕ) → length es ≤ i → (AllByRecursion IsEvent (drop i es) → AllByRecursion IsEvent es) → AllByRecursion IsEvent es
all_events es i past h = h (subst (AllByRecursion IsEvent) (sym (drop_of_length-le es past)) tt)

-- ---- the text is UTF-8

utf8_byte : (b : ℕ) → b < 128 → (t : List ℕ) → IsUtf8 t → IsUtf8 (b ∷ t)
utf8_byte b h t k =
    let ascii : IsAscii (b ∷ []) = IsAscii-from_all (b ∷ []) (All-from_recursion (λ x. x < 128) (b ∷ []) (h, tt)) in
    IsUtf8-append (b ∷ []) t (IsUtf8-from_ascii (b ∷ []) ascii) k

utf8_separated : (first : Bool) (t : List ℕ) → IsUtf8 t → IsUtf8 (separated first t)
utf8_separated true t h = h
utf8_separated false t h = utf8_byte 44 (omega arith) t h

utf8_joined : (first : Bool) (es : List EventValue) → AllByRecursion IsEvent es → IsUtf8 (joined first es)
utf8_joined first [] h = IsUtf8-nil
utf8_joined first (e ∷ es) h = IsUtf8-append (separated first (text e)) (joined false es) (utf8_separated first (text e) h.0.utf8) (utf8_joined false es h.1)

pub utf8_batch_text : (es : List EventValue) → AllByRecursion IsEvent es → IsUtf8 (batch_text es)
utf8_batch_text es h =
    subst IsUtf8 (sym (batch_text-joined es))
    (utf8_byte 91 (omega arith) (joined true es ++ 93 ∷ [])
    (IsUtf8-append (joined true es) (93 ∷ []) (utf8_joined true es h) (utf8_byte 93 (omega arith) [] IsUtf8-nil)))
