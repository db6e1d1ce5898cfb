-- The tokens that are written for numbers and digests are those of their JSON.
use Rattle.std.proofs.Common.{◌≡◌, List, [], ◌∷◌, ◌++◌, refl, sym, ap, ap₂, ◌∙◌, append_assoc}
use Rattle.std.specs.Prelude.{codes, decimal}
use Rattle.hex.specs.Hex.{encode_lower}
use Rattle.json.specs.Token.{Token, begin_object, end_object, begin_array, end_array, key, number, string}
use Rattle.json.specs.Tree as tree
use Rattle.json.specs.Print.{print}
use Rattle.serde_json.specs.Written.{outline, items_outline, members_outline}
use Rattle.serde_json.proofs.Texts.{print-outline}
use Rattle.coverage.specs.BlockDigests.{Blocks, SourceBlocks}
use Rattle.coverage.specs.Numbers.{Entries}
use Rattle.coverage.specs.DigestsText.{blocks_items, blocks_members, digests_data, digests_text}
use Rattle.coverage.specs.steps.Tokens.{blocks_tokens, digest_tokens, digests_tokens, sources_tokens}
use Rattle.coverage.proofs.WriteLemmas.{members_tokens-sources}

items_tokens-blocks : (bs : Blocks) → tree.items_tokens (items_outline (blocks_items bs)) ≡ blocks_tokens bs ++ end_array ∷ []
items_tokens-blocks [] = refl
items_tokens-blocks (b ∷ bs) =
    ap (λ l. begin_array ∷ number (decimal b.0) ∷ string (encode_lower b.1) ∷ end_array ∷ l) (items_tokens-blocks bs)

members_tokens-blocks : (ds : SourceBlocks) → tree.members_tokens (members_outline (blocks_members ds)) ≡ digests_tokens ds ++ end_object ∷ []
members_tokens-blocks [] = refl
members_tokens-blocks (d ∷ ds) =
    ap (λ l. key d.0 ∷ begin_array ∷ (l ++ tree.members_tokens (members_outline (blocks_members ds)))) (items_tokens-blocks d.1)
    ∙ ap (λ l. key d.0 ∷ begin_array ∷ ((blocks_tokens d.1 ++ end_array ∷ []) ++ l)) (members_tokens-blocks ds)
    ∙ sym (append_assoc (digest_tokens d) (digests_tokens ds) (end_object ∷ []))

-- the tokens from the first source on, and those of the whole
abbrev pub numbers_part : Entries → List Token
numbers_part es = end_object ∷ key (codes "sources") ∷ begin_object ∷ (sources_tokens es ++ end_object ∷ key (codes "version") ∷ number (decimal 2) ∷ end_object ∷ [])

abbrev pub blocks_part : SourceBlocks → List Token
blocks_part ds = begin_object ∷ key (codes "blocks") ∷ begin_object ∷ digests_tokens ds

abbrev pub whole_tokens : Entries → SourceBlocks → List Token
whole_tokens es ds = blocks_part ds ++ numbers_part es

json_tokens-digests : (es : Entries) (ds : SourceBlocks) → tree.json_tokens (outline (digests_data es ds)) ≡ whole_tokens es ds
json_tokens-digests es ds =
    let tail = key (codes "version") ∷ number (decimal 2) ∷ end_object ∷ [] in
    ap₂ (λ l m. begin_object ∷ key (codes "blocks") ∷ begin_object ∷ (l ++ key (codes "sources") ∷ begin_object ∷ (m ++ tail))) (members_tokens-blocks ds) (members_tokens-sources es)
    ∙ ap (λ m. begin_object ∷ key (codes "blocks") ∷ begin_object ∷ ((digests_tokens ds ++ end_object ∷ []) ++ key (codes "sources") ∷ begin_object ∷ m)) (append_assoc (sources_tokens es) (end_object ∷ []) tail)
    ∙ ap (λ l. begin_object ∷ key (codes "blocks") ∷ begin_object ∷ l) (append_assoc (digests_tokens ds) (end_object ∷ []) (key (codes "sources") ∷ begin_object ∷ (sources_tokens es ++ end_object ∷ tail)))

pub print-digests : (es : Entries) (ds : SourceBlocks) → print (whole_tokens es ds) ≡ digests_text es ds
unfolding digests_text
print-digests es ds = ap print (sym (json_tokens-digests es ds)) ∙ print-outline (digests_data es ds)

-- what is written up to the last block
pub blocks_written : (ds : SourceBlocks) (t0 t1 t2 t3 t4 : List Token) → t0 ≡ [] → t1 ≡ t0 ++ begin_object ∷ [] → t2 ≡ t1 ++ key (codes "blocks") ∷ [] → t3 ≡ t2 ++ begin_object ∷ []
    → t4 ≡ t3 ++ digests_tokens ds → t4 ≡ blocks_part ds
blocks_written ds t0 t1 t2 t3 t4 none e1 e2 e3 e4 =
    e4 ∙ ap (λ l. l ++ digests_tokens ds) (e3 ∙ ap (λ l. l ++ begin_object ∷ []) (e2 ∙ ap (λ l. l ++ key (codes "blocks") ∷ []) (e1 ∙ ap (λ l. l ++ begin_object ∷ []) none)))

pushed : (xs ss : List Token) (a b c d e f g : Token) → ((((((((xs ++ a ∷ []) ++ b ∷ []) ++ c ∷ []) ++ ss) ++ d ∷ []) ++ e ∷ []) ++ f ∷ []) ++ g ∷ []) ≡ xs ++ a ∷ b ∷ c ∷ (ss ++ d ∷ e ∷ f ∷ g ∷ [])
pushed xs ss a b c d e f g = simp append_assoc

-- and what is written after it
pub numbers_written : (es : Entries) (ds : SourceBlocks) (t0 t1 t2 t3 t4 t5 t6 t7 t8 : List Token) → t0 ≡ blocks_part ds → t1 ≡ t0 ++ end_object ∷ [] → t2 ≡ t1 ++ key (codes "sources") ∷ [] → t3 ≡ t2 ++ begin_object ∷ []
    → t4 ≡ t3 ++ sources_tokens es → t5 ≡ t4 ++ end_object ∷ [] → t6 ≡ t5 ++ key (codes "version") ∷ [] → t7 ≡ t6 ++ number (decimal 2) ∷ [] → t8 ≡ t7 ++ end_object ∷ [] → t8 ≡ whole_tokens es ds
numbers_written es ds t0 t1 t2 t3 t4 t5 t6 t7 t8 first e1 e2 e3 e4 e5 e6 e7 e8 =
    e8 ∙ ap (λ l. l ++ end_object ∷ []) (e7 ∙ ap (λ l. l ++ number (decimal 2) ∷ []) (e6 ∙ ap (λ l. l ++ key (codes "version") ∷ []) (e5 ∙ ap (λ l. l ++ end_object ∷ [])
    (e4 ∙ ap (λ l. l ++ sources_tokens es) (e3 ∙ ap (λ l. l ++ begin_object ∷ []) (e2 ∙ ap (λ l. l ++ key (codes "sources") ∷ []) (e1 ∙ ap (λ l. l ++ end_object ∷ []) first)))))))
    ∙ pushed (blocks_part ds) (sources_tokens es) end_object (key (codes "sources")) begin_object end_object (key (codes "version")) (number (decimal 2)) end_object
