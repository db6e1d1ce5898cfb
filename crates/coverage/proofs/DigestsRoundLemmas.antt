-- A text of version 2 reads back as the numbers and the digests.
use Rattle.std.proofs.Common.{◌≡◌, ℕ, ◌≤◌, true, false, nat_lt, List, [], ◌∷◌, ◌++◌, Some, Result, Ok, option_map, option_and_then, refl, sym, ap, ap₂, subst, ◌∙◌, arith, append-nil, append_assoc, ltb-true}
use Rattle.std.specs.Prelude.{codes}
use Rattle.std.specs.List.{AllByRecursion}
use Rattle.std.specs.List.Sorted.{IsStrictlySortedBy}
use Rattle.std.specs.Map.{keys_of}
use Rattle.std.specs.Str.{IsAscii, IsUtf8}
use Rattle.std.specs.declared.cmp.Ordering.TheVariants.{Less}
use Rattle.std.proofs.lemmas.Bool.{and_parts}
use Rattle.std.proofs.lemmas.Cmp.{nat_list_cmp_total}
use Rattle.std.proofs.lemmas.Str.{IsUtf8-from_ascii}
use Rattle.std.proofs.lemmas.Str.Ascii.{IsAscii-nil, IsAscii-cons}
use Rattle.hex.specs.Hex.{IsBytes, decode_of, encode_lower, lower_digits}
use Rattle.hex.specs.declared.error.FromHexError.{FromHexError}
use Rattle.hex.proofs.HexLemmas.{IsAscii-encode_with, decode_of-encode_lower}
use Rattle.json.specs.Token.{end_array}
use Rattle.json.specs.Lex.{tokens}
use Rattle.json.specs.Json as json
use Rattle.json.specs.Tree as tree
use Rattle.json.proofs.Printed.Utf8.{are_ascii, IsUtf8-are_ascii, IsUtf8-key, IsUtf8-quoted}
use Rattle.json.proofs.Printed.Decimals.{IsNumber-decimal}
use Rattle.json.proofs.Printed.Tokens.{tokens-print}
use Rattle.json.proofs.Printed.Trees.{value-json_tokens, ArePrintable-json_tokens}
use Rattle.serde_json.specs.Data.{Data, unsigned, array, object, string, Items, no_items, item, Members, no_members, member, put}
use Rattle.serde_json.specs.Data as json_data
use Rattle.serde_json.specs.Read.{of_json, of_items, of_members, read}
use Rattle.serde_json.specs.Written.{outline, items_outline, members_outline, compact_text}
use Rattle.serde_json.proofs.Texts.{print-outline}
use Rattle.coverage.specs.BlockDigests.{Blocks, IsDigest, SourceBlocks}
use Rattle.coverage.specs.Intervals.{max_sequence}
use Rattle.coverage.specs.Numbers.{byte_cmp, AreEntries, AreListed, Entries}
use Rattle.coverage.specs.NumbersText.{sources_members}
use Rattle.coverage.specs.DigestsText.{block_data, blocks_items, blocks_members, digests_data, digests_text}
use Rattle.coverage.specs.steps.Fits.{AllFit}
use Rattle.coverage.specs.steps.Tokens.{blocks_tokens, digest_tokens, digests_tokens, sources_tokens}
use Rattle.coverage.proofs.BlockLemmas.{EndsBelow, ends_below}
use Rattle.coverage.proofs.DigestsWriteLemmas.{numbers_part, print-digests, whole_tokens}
use Rattle.coverage.proofs.EntriesLemmas.{greater_from_less}
use Rattle.coverage.proofs.FitLemmas.{AreBelow, one_sources, small_blocks}
use Rattle.coverage.proofs.RoundLemmas.{AreUtf8, depth_sources, number_back, numbers_sources, put_greater, same_sources, sources_back, utf8_append, utf8_decimal, utf8_print, utf8_sources}

-- ---- what is known of each source's blocks
abbrev pub AllBelow : SourceBlocks → Type 0
AllBelow ds = AllByRecursion (λ d. AreBelow d.1) ds

abbrev pub AllDigests : SourceBlocks → Type 0
AllDigests ds = AllByRecursion (λ d. AllByRecursion (λ b. IsDigest b.1) d.1) ds

all_below : (es : Entries) (ds : SourceBlocks) → AreEntries es → AllFit es ds → AllBelow ds
all_below [] [] h f = tt
all_below [] (d ∷ ds) h f = absurd f
all_below (e ∷ es) [] h f = absurd f
all_below (e ∷ es) (d ∷ ds) h f = (small_blocks e.1 d.1 h.0.3 f.1.1, all_below es ds h.1 f.2)

all_digests : (es : Entries) (ds : SourceBlocks) → AllFit es ds → AllDigests ds
all_digests [] [] f = tt
all_digests [] (d ∷ ds) f = absurd f
all_digests (e ∷ es) [] f = absurd f
all_digests (e ∷ es) (d ∷ ds) f = (f.1.0.1, all_digests es ds f.2)

pub sorted_sources : (es : Entries) (ds : SourceBlocks) → AreListed es → AllFit es ds → IsStrictlySortedBy byte_cmp (keys_of ds)
sorted_sources es ds h f = subst (IsStrictlySortedBy byte_cmp) (sym (one_sources es ds f)) h.1

-- ---- read back
block_back : (b : ℕ × List ℕ) → b.0 ≤ max_sequence → of_json (outline (block_data b)) ≡ Some (block_data b)
block_back b low = ap (λ o. option_map array (option_and_then (λ d. option_map (item d) (Some (item (string (encode_lower b.1)) no_items))) o)) (number_back b.0 low)

blocks_back : (bs : Blocks) → AreBelow bs → of_items (items_outline (blocks_items bs)) ≡ Some (blocks_items bs)
blocks_back [] h = refl
blocks_back (b ∷ bs) h =
    ap (λ o. option_and_then (λ d. option_map (item d) (of_items (items_outline (blocks_items bs)))) o) (block_back b h.0)
    ∙ ap (λ o. option_map (item (block_data b)) o) (blocks_back bs h.1)

put_last : (ds : SourceBlocks) (k : List ℕ) (v : Blocks) → AllByRecursion (λ y. byte_cmp y k ≡ Less) (keys_of ds) → put k (array (blocks_items v)) (blocks_members ds) ≡ blocks_members (ds ++ (k, v) ∷ [])
put_last [] k v h = refl
put_last (d ∷ ds) k v h =
    put_greater k (array (blocks_items v)) d.0 (array (blocks_items d.1)) (blocks_members ds) (greater_from_less d.0 k h.0)
    ∙ ap (member d.0 (array (blocks_items d.1))) (put_last ds k v h.1)

source_blocks_back : (done ds : SourceBlocks) → AllBelow ds → IsStrictlySortedBy byte_cmp (keys_of (done ++ ds)) → of_members (members_outline (blocks_members ds)) (blocks_members done) ≡ Some (blocks_members (done ++ ds))
unfolding EndsBelow
source_blocks_back done [] h order = ap (λ l. Some (blocks_members l)) (sym (append-nil done))
source_blocks_back done (d ∷ ds) h order =
    ap (λ o. option_and_then (λ x. of_members (members_outline (blocks_members ds)) (put d.0 x (blocks_members done))) (option_map array o)) (blocks_back d.1 h.0)
    ∙ ap (of_members (members_outline (blocks_members ds))) (put_last done d.0 d.1 (ends_below nat_list_cmp_total done d ds order))
    ∙ source_blocks_back (done ++ d ∷ []) ds h.1 (subst (λ l. IsStrictlySortedBy byte_cmp (keys_of l)) (sym (append_assoc done (d ∷ []) ds)) order)
    ∙ ap (λ l. Some (blocks_members l)) (append_assoc done (d ∷ []) ds)

data_back : (es : Entries) (ds : SourceBlocks) → AreListed es → AllFit es ds → of_json (outline (digests_data es ds)) ≡ Some (digests_data es ds)
data_back es ds h f =
    let version = member (codes "version") (json_data.number (unsigned 2)) no_members in
    let sources = member (codes "sources") (object (sources_members es)) version in
    let blocks = member (codes "blocks") (object (blocks_members ds)) no_members in
    let both = member (codes "blocks") (object (blocks_members ds)) (member (codes "sources") (object (sources_members es)) no_members) in
    ap (λ o. option_map object (option_and_then (λ d. of_members (members_outline sources) (put (codes "blocks") d no_members)) (option_map object o))) (source_blocks_back [] ds (all_below es ds h.0 f) (sorted_sources es ds h f))
    ∙ ap (λ o. option_map object (option_and_then (λ d. of_members (members_outline version) (put (codes "sources") d blocks)) (option_map object o))) (sources_back [] es h.0 h.1)
    ∙ ap (λ o. option_map object (option_and_then (λ d. of_members (members_outline no_members) (put (codes "version") d both)) o)) (number_back 2 (omega arith))

-- ---- printable tokens, and depths
numbers_blocks : (bs : Blocks) → AreBelow bs → tree.ItemsHaveNumbers (items_outline (blocks_items bs))
numbers_blocks [] h = tt
numbers_blocks (b ∷ bs) h = let low = h.0 in ((IsNumber-decimal b.0 (omega (arith, low)), (tt, tt)), numbers_blocks bs h.1)

numbers_members : (ds : SourceBlocks) → AllBelow ds → tree.MembersHaveNumbers (members_outline (blocks_members ds))
numbers_members [] h = tt
numbers_members (d ∷ ds) h = (numbers_blocks d.1 h.0, numbers_members ds h.1)

numbers_whole : (es : Entries) (ds : SourceBlocks) → AreListed es → AllFit es ds → tree.HasNumbers (outline (digests_data es ds))
numbers_whole es ds h f = (numbers_members ds (all_below es ds h.0 f), (numbers_sources es h.0, (IsNumber-decimal 2 (omega arith), tt)))

depth_blocks : (bs : Blocks) → tree.items_depth (items_outline (blocks_items bs)) ≤ 1
depth_blocks [] = omega arith
depth_blocks (b ∷ bs) = let rest = depth_blocks bs in omega arith

depth_members : (ds : SourceBlocks) → tree.members_depth (members_outline (blocks_members ds)) ≤ 2
depth_members [] = omega arith
depth_members (d ∷ ds) = let first = depth_blocks d.1 in let rest = depth_members ds in omega arith

depth_whole : (es : Entries) (ds : SourceBlocks) → tree.depth (outline (digests_data es ds)) ≤ 127
depth_whole es ds = let blocks = depth_members ds in let sources = depth_sources es in omega arith

pub read-digests_text : (es : Entries) (ds : SourceBlocks) → AreListed es → AllFit es ds → read (digests_text es ds) ≡ Some (digests_data es ds)
unfolding digests_text
read-digests_text es ds h f =
    let shown = digests_data es ds in
    let written : tokens (compact_text shown) ≡ tree.json_tokens (outline shown) =
    ap tokens (sym (print-outline shown)) ∙ tokens-print (tree.json_tokens (outline shown)) (ArePrintable-json_tokens (outline shown) (numbers_whole es ds h f)) in
    ap (λ o. option_and_then of_json (option_and_then (λ p. json.if_last p.0 p.1) o))
    (ap (json.value 127) (written ∙ sym (append-nil (tree.json_tokens (outline shown)))) ∙ value-json_tokens (outline shown) 127 [] (depth_whole es ds))
    ∙ data_back es ds h f

-- ---- the text is UTF-8
ascii_all : (xs : List ℕ) → are_ascii xs ≡ true → IsAscii xs
ascii_all [] e = IsAscii-nil
ascii_all (x ∷ xs) e = let p = and_parts (nat_lt x 128) (are_ascii xs) e in IsAscii-cons x xs (ltb-true x 128 p.0) (ascii_all xs p.1)

utf8_digits : (d : List ℕ) → IsUtf8 (encode_lower d)
utf8_digits d = IsUtf8-from_ascii (encode_lower d) (IsAscii-encode_with lower_digits d (ascii_all lower_digits refl))

utf8_blocks : (bs : Blocks) → AreBelow bs → AreUtf8 (blocks_tokens bs)
utf8_blocks [] h = tt
utf8_blocks (b ∷ bs) h =
    (IsUtf8-are_ascii (91 ∷ []) refl, (utf8_decimal b.0 h.0, (IsUtf8-quoted (encode_lower b.1) (utf8_digits b.1), (IsUtf8-are_ascii (93 ∷ []) refl, utf8_blocks bs h.1))))

utf8_digests : (es : Entries) (ds : SourceBlocks) → AreEntries es → AllFit es ds → AreUtf8 (digests_tokens ds)
utf8_digests [] [] h f = tt
utf8_digests [] (d ∷ ds) h f = absurd f
utf8_digests (e ∷ es) [] h f = absurd f
utf8_digests (e ∷ es) (d ∷ ds) h f =
    utf8_append (digest_tokens d) (digests_tokens ds)
    (IsUtf8-key d.0 (subst IsUtf8 (sym f.0) h.0.0), (IsUtf8-are_ascii (91 ∷ []) refl, utf8_append (blocks_tokens d.1) (end_array ∷ []) (utf8_blocks d.1 (small_blocks e.1 d.1 h.0.3 f.1.1)) (IsUtf8-are_ascii (93 ∷ []) refl, tt)))
    (utf8_digests es ds h.1 f.2)

pub IsUtf8-digests_text : (es : Entries) (ds : SourceBlocks) → AreListed es → AllFit es ds → IsUtf8 (digests_text es ds)
IsUtf8-digests_text es ds h f = subst IsUtf8 (print-digests es ds) (utf8_print false (whole_tokens es ds) (
  IsUtf8-are_ascii (123 ∷ []) refl,
  (
    IsUtf8-key (codes "blocks") (IsUtf8-are_ascii (codes "blocks") refl),
    (
      IsUtf8-are_ascii (123 ∷ []) refl,
      utf8_append (digests_tokens ds) (numbers_part es) (utf8_digests es ds h.0 f) (
        IsUtf8-are_ascii (125 ∷ []) refl,
        (
          IsUtf8-key (codes "sources") (IsUtf8-are_ascii (codes "sources") refl),
          (
            IsUtf8-are_ascii (123 ∷ []) refl,
            utf8_append (sources_tokens es) _ (utf8_sources es h.0)
                (IsUtf8-are_ascii (125 ∷ []) refl, (IsUtf8-key (codes "version") (IsUtf8-are_ascii (codes "version") refl), (utf8_decimal 2 (omega arith), (IsUtf8-are_ascii (125 ∷ []) refl, tt)))),
          ),
        ),
      ),
    ),
  ),
))

-- ---- different digests have different JSON
same_bytes : (x y : List ℕ) → ◌≡◌ {A = Result (List ℕ) FromHexError} (Ok x) (Ok y) → x ≡ y
same_bytes x y h = cc h

same_digest : (x y : List ℕ) → IsBytes x → IsBytes y → encode_lower x ≡ encode_lower y → x ≡ y
same_digest x y h g e = same_bytes x y (sym (decode_of-encode_lower x h) ∙ ap decode_of e ∙ decode_of-encode_lower y g)

same_blocks : (bs cs : Blocks) → AllByRecursion (λ b. IsDigest b.1) bs → AllByRecursion (λ b. IsDigest b.1) cs → blocks_items bs ≡ blocks_items cs → bs ≡ cs
same_blocks [] [] h g e = refl
same_blocks [] (c ∷ cs) h g e = absurd (cc)
same_blocks (b ∷ bs) [] h g e = absurd (cc)
same_blocks (b ∷ bs) (c ∷ cs) h g e =
    let first : block_data b ≡ block_data c = cc in
    let number : b.0 ≡ c.0 = cc first in
    let text : encode_lower b.1 ≡ encode_lower c.1 = cc first in
    ap₂ ◌∷◌ (ap₂ (λ (x : ℕ) (y : List ℕ). (x, y)) number (same_digest b.1 c.1 h.0.1 g.0.1 text)) (same_blocks bs cs h.1 g.1 (cc))

pub same_members : (ds fs : SourceBlocks) → AllDigests ds → AllDigests fs → blocks_members ds ≡ blocks_members fs → ds ≡ fs
same_members [] [] h g e = refl
same_members [] (f ∷ fs) h g e = absurd (cc)
same_members (d ∷ ds) [] h g e = absurd (cc)
same_members (d ∷ ds) (f ∷ fs) h g e =
    ap₂ ◌∷◌ (ap₂ (λ (x : List ℕ) (y : Blocks). (x, y)) (cc) (same_blocks d.1 f.1 h.0 g.0 (cc))) (same_members ds fs h.1 g.1 (cc))

same_parts : (es fs : Entries) (bs cs : SourceBlocks) → digests_data es bs ≡ digests_data fs cs → (sources_members es ≡ sources_members fs) × (blocks_members bs ≡ blocks_members cs)
same_parts es fs bs cs h = (cc, cc)

pub same_digests_data : (es fs : Entries) (bs cs : SourceBlocks) → AllFit es bs → AllFit fs cs → digests_data es bs ≡ digests_data fs cs → (es ≡ fs) × (bs ≡ cs)
same_digests_data es fs bs cs f g h =
    let parts = same_parts es fs bs cs h in
    (same_sources es fs parts.0, same_members bs cs (all_digests es bs f) (all_digests fs cs g) parts.1)
