-- What is written for rows is their text.
use Rattle.std.proofs.Common.{◌≡◌, ℕ, ℤ, zero, suc, ◌+◌, Bool, true, false, List, [], ◌∷◌, ◌++◌, map, take, eqb, refl, sym, ap, ap₂, ◌∙◌, arith, append_assoc, append-nil, ne_eqb}
use Rattle.std.specs.List.{join_with_byte}
use Rattle.std.proofs.lemmas.List.{map-append}
use Rattle.attributes.specs.Event.{EventValue, text}
use Rattle.jiff_core.specs.declared.civil.date.Date.{Date}
use Rattle.jiff_core.proofs.DateLemmas.{epoch_day_injective}
use Rattle.jiff_fmt.specs.Text.{date_text}
use Rattle.serde_json.specs.Data as json
use Rattle.views.specs.Day.{IsDayText}
use Rattle.views.specs.steps.Joined.{separated}
use Rattle.std.specs.Prelude.{decimal, flat_map, slice_get, Some}
use Rattle.std.proofs.lemmas.Grind.{flat_map-append}
use Rattle.json.specs.Token.{begin_array, end_array, string, number}
use Rattle.json.specs.Tree as tree
use Rattle.json.specs.Print.{print}
use Rattle.serde_json.specs.Written.{compact_text, items_outline}
use Rattle.serde_json.proofs.Texts.{print-outline}
use Rattle.coverage.specs.Intervals.{Interval}
use Rattle.coverage.specs.SummaryText.{intervals_items}
use Rattle.coverage.specs.SummaryText.{intervals_tokens}
use Rattle.views.proofs.StepLemmas.{take_next}
use Rattle.views.specs.Line.{AreDayLines, IsDayLine, day_data, gap_data, kind_data, line}

pub print-kind : (kind : List ℕ) (count : ℕ) → print (begin_array ∷ string kind ∷ number (decimal count) ∷ end_array ∷ []) ≡ compact_text (kind_data kind count)
print-kind kind count = print-outline (kind_data kind count)

pub print-day : (kind day : List ℕ) (count : ℕ) → print (begin_array ∷ string kind ∷ string day ∷ number (decimal count) ∷ end_array ∷ []) ≡ compact_text (day_data kind day count)
print-day kind day count = print-outline (day_data kind day count)

items_tokens-intervals : (ps : List Interval) → tree.items_tokens (items_outline (intervals_items ps)) ≡ intervals_tokens ps ++ end_array ∷ []
items_tokens-intervals [] = refl
items_tokens-intervals (p ∷ ps) =
    ap (λ l. begin_array ∷ number (decimal p.0) ∷ number (decimal p.1) ∷ end_array ∷ l) (items_tokens-intervals ps)

pub print-gap : (source : List ℕ) (ps : List Interval) → print (begin_array ∷ string source ∷ begin_array ∷ ((intervals_tokens ps ++ end_array ∷ []) ++ end_array ∷ [])) ≡ compact_text (gap_data (source, ps))
print-gap source ps =
    ap (λ l. print (begin_array ∷ string source ∷ begin_array ∷ (l ++ end_array ∷ []))) (sym (items_tokens-intervals ps)) ∙ print-outline (gap_data (source, ps))

-- one more line
pub lines_more : {X : Type 0} (f : X → List ℕ) (xs : List X) (i : ℕ) (x : X) → slice_get xs i ≡ Some x → flat_map f (take (i + 1) xs) ≡ flat_map f (take i xs) ++ f x
lines_more f xs i x h = ap (flat_map f) (take_next xs i x h) ∙ flat_map-append f (take i xs) (x ∷ []) ∙ ap (λ l. flat_map f (take i xs) ++ l) (append-nil (f x))

pub day_lines_push : (rows : List ((List ℕ × ℤ) × ℕ)) (t : List ℕ) (row : (List ℕ × ℤ) × ℕ) (l : List ℕ) → AreDayLines rows t → IsDayLine row l → AreDayLines (rows ++ row ∷ []) (t ++ l)
day_lines_push [] t row l a d = (l, [], d, refl, ap (λ t. t ++ l) a ∙ sym (append-nil l))
day_lines_push (r ∷ rs) t row l a d =
    (a.0, a.1 ++ l, a.2, day_lines_push rs a.1 row l a.3 d, ap (λ t. t ++ l) a.4 ∙ append_assoc a.0 a.1 l)

pub print-string : (words : List ℕ) → print (string words ∷ []) ≡ compact_text (json.string words)
print-string words = print-outline (json.string words)

-- ---- texts joined by commas

abbrev is_none : {X : Type 0} → List X → Bool
is_none [] = true
is_none (x ∷ xs) = false

join-push : (ts : List (List ℕ)) (t : List ℕ) → join_with_byte 44 (ts ++ t ∷ []) ≡ join_with_byte 44 ts ++ separated (is_none ts) t
join-push [] t = refl
join-push (x ∷ []) t = refl
join-push (x ∷ y ∷ ys) t = ap (λ r. x ++ 44 ∷ r) (join-push (y ∷ ys) t) ∙ sym (append_assoc x (44 ∷ join_with_byte 44 (y ∷ ys)) (44 ∷ t))

none_before : (i : ℕ) (es : List EventValue) (e : EventValue) → slice_get es i ≡ Some e → is_none (map text (take i es)) ≡ eqb i 0
none_before zero es e h = refl
none_before (suc i) [] e h = absurd (cc)
none_before (suc i) (x ∷ es) e h = sym (ne_eqb (suc i) 0 (λ e. omega (arith, e)))

-- one more text
pub texts_more : (es : List EventValue) (i : ℕ) (e : EventValue) → slice_get es i ≡ Some e
    → join_with_byte 44 (map text (take (i + 1) es)) ≡ join_with_byte 44 (map text (take i es)) ++ separated (eqb i 0) (text e)
texts_more es i e h =
    ap (λ l. join_with_byte 44 (map text l)) (take_next es i e h)
    ∙ ap (join_with_byte 44) (map-append text (take i es) (e ∷ []))
    ∙ join-push (map text (take i es)) (text e)
    ∙ ap (λ b. join_with_byte 44 (map text (take i es)) ++ separated b (text e)) (none_before i es e h)

-- ---- days have one text

day_text_one : (day : ℤ) (t u : List ℕ) → IsDayText day t → IsDayText day u → t ≡ u
day_text_one day t u a b =
    let same = epoch_day_injective a.0 b.0 (a.1 ∙ sym b.1) in
    a.2 ∙ date_same a.0 b.0 same.0 same.1 same.2 ∙ sym b.2
  where
    date_same : (d f : Date) → d.year ≡ f.year → d.month ≡ f.month → d.day ≡ f.day → date_text d ≡ date_text f
    date_same d f year month day = cc (year, month, day)

day_line_one : (row : (List ℕ × ℤ) × ℕ) (l m : List ℕ) → IsDayLine row l → IsDayLine row m → l ≡ m
day_line_one row l m a b =
    a.2 ∙ ap (λ d. line (compact_text (day_data row.0.0 d row.1))) (day_text_one row.0.1 a.0 b.0 a.1 b.1) ∙ sym b.2

pub day_lines_one : (rows : List ((List ℕ × ℤ) × ℕ)) (t u : List ℕ) → AreDayLines rows t → AreDayLines rows u → t ≡ u
day_lines_one [] t u a b = a ∙ sym b
day_lines_one (row ∷ rows) t u a b =
    a.4 ∙ ap₂ (λ x y. x ++ y) (day_line_one row a.0 b.0 a.2 b.2) (day_lines_one rows a.1 b.1 a.3 b.3) ∙ sym b.4

-- the pieces of a conflict's line, one after the other
pub conflict_pieces : (o a j b i c s d n : List ℕ)
    → ((((((((o ++ a) ++ j) ++ b) ++ i) ++ c) ++ s) ++ d) ++ n) ≡ o ++ ((a ++ (j ++ (b ++ (i ++ (c ++ (s ++ d)))))) ++ n)
conflict_pieces o a j b i c s d n =
    ap (λ l. l ++ n) (
    append_assoc ((((((o ++ a) ++ j) ++ b) ++ i) ++ c)) s d
    ∙ append_assoc (((((o ++ a) ++ j) ++ b) ++ i)) c (s ++ d)
    ∙ append_assoc ((((o ++ a) ++ j) ++ b)) i (c ++ (s ++ d))
    ∙ append_assoc (((o ++ a) ++ j)) b (i ++ (c ++ (s ++ d)))
    ∙ append_assoc ((o ++ a)) j (b ++ (i ++ (c ++ (s ++ d))))
    ∙ append_assoc o a (j ++ (b ++ (i ++ (c ++ (s ++ d)))))
    ) ∙ append_assoc o (a ++ (j ++ (b ++ (i ++ (c ++ (s ++ d)))))) n
