-- A summary's text reads back as the summary.
use Rattle.std.proofs.Common.{◌≡◌, ℕ, suc, ◌+◌, ◌≤◌, Bool, true, false, List, [], ◌∷◌, ◌++◌, Some, option_map, option_and_then, refl, sym, ap, ap₂, subst, ◌∙◌, arith, append-nil, append_assoc}
use Rattle.std.specs.Prelude.{codes, decimal}
use Rattle.std.specs.Str.{IsUtf8}
use Rattle.std.proofs.lemmas.Str.{IsUtf8-append, IsUtf8-nil, IsUtf8-from_ascii}
use Rattle.std.proofs.lemmas.Fmt.{IsAscii-decimal}
use Rattle.std.specs.Ordering.{match_ordering}
use Rattle.std.specs.declared.cmp.Ordering.TheVariants.{Greater}
use Rattle.json.specs.Token.{Token, end_array}
use Rattle.json.specs.Lex.{tokens}
use Rattle.json.specs.Json as json
use Rattle.json.specs.Tree as tree
use Rattle.json.specs.Print.{print_from, separator, ends, token_text}
use Rattle.json.proofs.Printed.Utf8.{IsUtf8-are_ascii, IsUtf8-key, IsUtf8-separator}
use Rattle.json.proofs.Printed.Decimals.{IsNumber-decimal}
use Rattle.json.proofs.Printed.Tokens.{tokens-print}
use Rattle.json.proofs.Printed.Trees.{value-json_tokens, ArePrintable-json_tokens}
use Rattle.serde_json.specs.Data.{Data, unsigned, array, object, Items, no_items, item, Members, no_members, member, put}
use Rattle.serde_json.specs.Data as json_data
use Rattle.serde_json.specs.Read.{of_json, of_items, of_members, read}
use Rattle.serde_json.specs.Written.{outline, items_outline, members_outline, compact_text}
use Rattle.serde_json.proofs.Numbers.{number_of-decimal}
use Rattle.serde_json.proofs.Texts.{print-outline}
use Rattle.coverage.specs.Intervals.{Interval, max_sequence, rises_from}
use Rattle.coverage.specs.Numbers.{byte_cmp, Entries, AreEntries, AreSourcesInOrder, AreListed}
use Rattle.coverage.specs.NumbersText.{interval_data, intervals_items, sources_members, numbers_data, numbers_text}
use Rattle.coverage.specs.steps.Places.{EndsBefore}
use Rattle.coverage.proofs.HoldsLemmas.{rises_from-parts, fits_from-true}
use Rattle.coverage.proofs.EntriesLemmas.{before_between, greater_from_less}
use Rattle.coverage.proofs.WriteLemmas.{print-summary, summary_tokens}
use Rattle.coverage.specs.steps.Tokens.{intervals_tokens, entry_tokens, sources_tokens}

-- ---- numbers
pub number_back : (n : ℕ) → n ≤ max_sequence → of_json (json.number (decimal n)) ≡ Some (json_data.number (unsigned n))
number_back n h = ap (option_map json_data.number) (number_of-decimal n (omega arith))

interval_back : (p : Interval) → p.0 ≤ max_sequence → p.1 ≤ max_sequence → of_json (outline (interval_data p)) ≡ Some (interval_data p)
interval_back p low high =
    ap (λ o. option_map array (option_and_then (λ d. option_map (item d) (option_and_then (λ e. option_map (item e) (Some no_items)) (of_json (json.number (decimal p.1))))) o)) (number_back p.0 low)
    ∙ ap (λ o. option_map array (option_map (item (json_data.number (unsigned p.0))) (option_and_then (λ e. option_map (item e) (Some no_items)) o))) (number_back p.1 high)

intervals_back : (n : ℕ) (ps : List Interval) → rises_from n ps ≡ true → of_items (items_outline (intervals_items ps)) ≡ Some (intervals_items ps)
intervals_back n [] h = refl
intervals_back n (p ∷ ps) h =
    let parts = rises_from-parts n p ps h in
    let fits = fits_from-true n p parts.0 in
    ap (λ o. option_and_then (λ d. option_map (item d) (of_items (items_outline (intervals_items ps)))) o) (interval_back p (omega arith) fits.2)
    ∙ ap (λ o. option_map (item (interval_data p)) o) (intervals_back (p.1 + 2) ps parts.1)

-- ---- members in order
pub put_greater : (k : List ℕ) (d : Data) (l : List ℕ) (e : Data) (ms : Members) → byte_cmp k l ≡ Greater → put k d (member l e ms) ≡ member l e (put k d ms)
put_greater k d l e ms h = ap (λ o. match_ordering o (member k d (member l e ms)) (member l d ms) (member l e (put k d ms))) h

put_last : (es : Entries) (k : List ℕ) (d : Data) (v : List Interval) → d ≡ array (intervals_items v) → EndsBefore es k → put k d (sources_members es) ≡ sources_members (es ++ (k, v) ∷ [])
put_last [] k d v is h = ap (λ x. member k x no_members) is
put_last (e ∷ es) k d v is h =
    put_greater k d e.0 (array (intervals_items e.1)) (sources_members es) (greater_from_less e.0 k (h 0 (omega arith)))
    ∙ ap (member e.0 (array (intervals_items e.1))) (put_last es k d v is (λ i hi. h (suc i) (omega arith)))

pub sources_back : (done es : Entries) → AreEntries es → AreSourcesInOrder (done ++ es) → of_members (members_outline (sources_members es)) (sources_members done) ≡ Some (sources_members (done ++ es))
sources_back done [] h order = ap (λ l. Some (sources_members l)) (sym (append-nil done))
sources_back done (e ∷ es) h order =
    ap (λ o. option_and_then (λ d. of_members (members_outline (sources_members es)) (put e.0 d (sources_members done))) (option_map array o)) (intervals_back 1 e.1 h.0.3)
    ∙ ap (of_members (members_outline (sources_members es))) (put_last done e.0 (array (intervals_items e.1)) e.1 refl (before_between done e es order))
    ∙ sources_back (done ++ e ∷ []) es h.1 (subst AreSourcesInOrder (sym (append_assoc done (e ∷ []) es)) order)
    ∙ ap (λ l. Some (sources_members l)) (append_assoc done (e ∷ []) es)

data_back : (s : Entries) → AreListed s → of_json (outline (numbers_data s)) ≡ Some (numbers_data s)
data_back s h =
    ap (λ o. option_map object (option_and_then (λ d. of_members (members_outline (member (codes "version") (json_data.number (unsigned 1)) no_members)) (put (codes "sources") d no_members)) (option_map object o))) (sources_back [] s h.0 h.1)
    ∙ ap (λ o. option_map object (option_and_then (λ d. of_members (members_outline no_members) (put (codes "version") d (member (codes "sources") (object (sources_members s)) no_members))) o)) (number_back 1 (omega arith))

-- ---- printable tokens, and depths
numbers_interval : (n : ℕ) (ps : List Interval) → rises_from n ps ≡ true → tree.ItemsHaveNumbers (items_outline (intervals_items ps))
numbers_interval n [] h = tt
numbers_interval n (p ∷ ps) h =
    let parts = rises_from-parts n p ps h in
    let fits = fits_from-true n p parts.0 in
    ((IsNumber-decimal p.0 (omega arith), (IsNumber-decimal p.1 (omega arith), tt)), numbers_interval (p.1 + 2) ps parts.1)

pub numbers_sources : (es : Entries) → AreEntries es → tree.MembersHaveNumbers (members_outline (sources_members es))
numbers_sources [] h = tt
numbers_sources (e ∷ es) h = (numbers_interval 1 e.1 h.0.3, numbers_sources es h.1)

numbers_summary : (s : Entries) → AreListed s → tree.HasNumbers (outline (numbers_data s))
numbers_summary s h = (numbers_sources s h.0, (IsNumber-decimal 1 (omega arith), tt))

depth_intervals : (ps : List Interval) → tree.items_depth (items_outline (intervals_items ps)) ≤ 1
depth_intervals [] = omega arith
depth_intervals (p ∷ ps) = let rest = depth_intervals ps in omega arith

pub depth_sources : (es : Entries) → tree.members_depth (members_outline (sources_members es)) ≤ 2
depth_sources [] = omega arith
depth_sources (e ∷ es) = let first = depth_intervals e.1 in let rest = depth_sources es in omega arith

depth_summary : (s : Entries) → tree.depth (outline (numbers_data s)) ≤ 127
depth_summary s = let sources = depth_sources s in omega arith

pub read-numbers_text : (s : Entries) → AreListed s → read (numbers_text s) ≡ Some (numbers_data s)
unfolding numbers_text
read-numbers_text s h =
    let written : tokens (compact_text (numbers_data s)) ≡ tree.json_tokens (outline (numbers_data s)) =
    ap tokens (sym (print-outline (numbers_data s))) ∙ tokens-print (tree.json_tokens (outline (numbers_data s))) (ArePrintable-json_tokens (outline (numbers_data s)) (numbers_summary s h)) in
    ap (λ o. option_and_then of_json (option_and_then (λ p. json.if_last p.0 p.1) o))
    (ap (json.value 127) (written ∙ sym (append-nil (tree.json_tokens (outline (numbers_data s))))) ∙ value-json_tokens (outline (numbers_data s)) 127 [] (depth_summary s))
    ∙ data_back s h

-- ---- the text is UTF-8
abbrev pub AreUtf8 : List Token → Type 0
AreUtf8 [] = Unit {0}
AreUtf8 (t ∷ ts) = IsUtf8 (token_text t) × AreUtf8 ts

pub utf8_print : (after : Bool) (ts : List Token) → AreUtf8 ts → IsUtf8 (print_from after ts)
unfolding print_from
utf8_print after [] h = IsUtf8-nil
utf8_print after (t ∷ ts) h =
    IsUtf8-append (separator after t) (token_text t ++ print_from (ends t) ts) (IsUtf8-separator after t)
    (IsUtf8-append (token_text t) (print_from (ends t) ts) h.0 (utf8_print (ends t) ts h.1))

pub utf8_append : (ts us : List Token) → AreUtf8 ts → AreUtf8 us → AreUtf8 (ts ++ us)
utf8_append [] us h g = g
utf8_append (t ∷ ts) us h g = (h.0, utf8_append ts us h.1 g)

pub utf8_decimal : (n : ℕ) → n ≤ max_sequence → IsUtf8 (decimal n)
utf8_decimal n h = IsUtf8-from_ascii (decimal n) (IsAscii-decimal n (omega arith))

utf8_intervals : (n : ℕ) (ps : List Interval) → rises_from n ps ≡ true → AreUtf8 (intervals_tokens ps)
utf8_intervals n [] h = tt
utf8_intervals n (p ∷ ps) h =
    let parts = rises_from-parts n p ps h in
    let fits = fits_from-true n p parts.0 in
    (IsUtf8-are_ascii (91 ∷ []) refl, (utf8_decimal p.0 (omega arith), (utf8_decimal p.1 fits.2, (IsUtf8-are_ascii (93 ∷ []) refl, utf8_intervals (p.1 + 2) ps parts.1))))

pub utf8_sources : (es : Entries) → AreEntries es → AreUtf8 (sources_tokens es)
utf8_sources [] h = tt
utf8_sources (e ∷ es) h =
    utf8_append (entry_tokens e) (sources_tokens es)
    (IsUtf8-key e.0 h.0.0, (IsUtf8-are_ascii (91 ∷ []) refl, utf8_append (intervals_tokens e.1) (end_array ∷ []) (utf8_intervals 1 e.1 h.0.3) (IsUtf8-are_ascii (93 ∷ []) refl, tt)))
    (utf8_sources es h.1)

pub IsUtf8-numbers_text : (s : Entries) → AreListed s → IsUtf8 (numbers_text s)
IsUtf8-numbers_text s h = subst IsUtf8 (print-summary s) (utf8_print false (summary_tokens s) (
  IsUtf8-are_ascii (123 ∷ []) refl,
  (
    IsUtf8-key (codes "sources") (IsUtf8-are_ascii (codes "sources") refl),
    (
      IsUtf8-are_ascii (123 ∷ []) refl,
      utf8_append (sources_tokens s) _ (utf8_sources s h.0)
          (IsUtf8-are_ascii (125 ∷ []) refl, (IsUtf8-key (codes "version") (IsUtf8-are_ascii (codes "version") refl), (utf8_decimal 1 (omega arith), (IsUtf8-are_ascii (125 ∷ []) refl, tt)))),
    ),
  ),
))

-- ---- the law: different summaries have different texts
pub same_data : (a b : Data) → Some a ≡ Some b → a ≡ b
same_data a b h = cc

same_intervals : (ps qs : List Interval) → intervals_items ps ≡ intervals_items qs → ps ≡ qs
same_intervals [] [] h = refl
same_intervals [] (q ∷ qs) h = absurd (cc)
same_intervals (p ∷ ps) [] h = absurd (cc)
same_intervals (p ∷ ps) (q ∷ qs) h =
    let first : interval_data p ≡ interval_data q = cc in
    let low : p.0 ≡ q.0 = cc first in
    let high : p.1 ≡ q.1 = cc first in
    ap₂ ◌∷◌ (ap₂ (λ (a b : ℕ). (a, b)) low high) (same_intervals ps qs (cc))

pub same_sources : (s t : Entries) → sources_members s ≡ sources_members t → s ≡ t
same_sources [] [] h = refl
same_sources [] (e ∷ es) h = absurd (cc)
same_sources (d ∷ ds) [] h = absurd (cc)
same_sources (d ∷ ds) (e ∷ es) h =
    ap₂ ◌∷◌ (ap₂ (λ (a : List ℕ) (b : List Interval). (a, b)) (cc) (same_intervals d.1 e.1 (cc))) (same_sources ds es (cc))

pub same_summary_data : (s t : Entries) → numbers_data s ≡ numbers_data t → s ≡ t
same_summary_data s t h = same_sources s t (cc)

pub same_texts-same : (s t : Entries) → AreListed s → AreListed t → numbers_text s ≡ numbers_text t → s ≡ t
same_texts-same s t hs ht h =
    same_summary_data s t (same_data (numbers_data s) (numbers_data t) (sym (read-numbers_text s hs) ∙ ap read h ∙ read-numbers_text t ht))

-- what is read from a summary's text is its JSON
pub read_is_data : (bytes : List ℕ) (d : Data) (s : Entries) → AreListed s → read bytes ≡ Some d → bytes ≡ numbers_text s → d ≡ numbers_data s
read_is_data bytes d s h is same = same_data d (numbers_data s) (sym is ∙ ap read same ∙ read-numbers_text s h)
