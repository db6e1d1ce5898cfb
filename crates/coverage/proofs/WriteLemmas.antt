-- The tokens that are written for a summary are those of its JSON.
use Rattle.std.proofs.Common.{◌≡◌, List, [], ◌∷◌, ◌++◌, refl, sym, ap, ◌∙◌, append_assoc}
use Rattle.std.specs.Prelude.{codes, decimal}
use Rattle.json.specs.Token.{Token, begin_object, end_object, begin_array, end_array, key, number}
use Rattle.json.specs.Tree as tree
use Rattle.json.specs.Print.{print}
use Rattle.serde_json.specs.Written.{outline, items_outline, members_outline}
use Rattle.serde_json.proofs.Texts.{print-outline}
use Rattle.coverage.specs.Intervals.{Interval}
use Rattle.coverage.specs.Numbers.{Entries}
use Rattle.coverage.specs.NumbersText.{intervals_items, sources_members, numbers_data, numbers_text}
use Rattle.coverage.specs.steps.Tokens.{intervals_tokens, entry_tokens, sources_tokens}

items_tokens-intervals : (ps : List Interval) → tree.items_tokens (items_outline (intervals_items ps)) ≡ intervals_tokens ps ++ end_array ∷ []
items_tokens-intervals [] = refl
items_tokens-intervals (p ∷ ps) =
    ap (λ l. begin_array ∷ number (decimal p.0) ∷ number (decimal p.1) ∷ end_array ∷ l) (items_tokens-intervals ps)

pub members_tokens-sources : (es : Entries) → tree.members_tokens (members_outline (sources_members es)) ≡ sources_tokens es ++ end_object ∷ []
members_tokens-sources [] = refl
members_tokens-sources (e ∷ es) =
    ap (λ l. key e.0 ∷ begin_array ∷ (l ++ tree.members_tokens (members_outline (sources_members es)))) (items_tokens-intervals e.1)
    ∙ ap (λ l. key e.0 ∷ begin_array ∷ ((intervals_tokens e.1 ++ end_array ∷ []) ++ l)) (members_tokens-sources es)
    ∙ sym (append_assoc (entry_tokens e) (sources_tokens es) (end_object ∷ []))

-- the tokens of the whole
abbrev pub summary_tokens : Entries → List Token
summary_tokens es = begin_object ∷ key (codes "sources") ∷ begin_object ∷ (sources_tokens es ++ end_object ∷ key (codes "version") ∷ number (decimal 1) ∷ end_object ∷ [])

json_tokens-summary : (es : Entries) → tree.json_tokens (outline (numbers_data es)) ≡ summary_tokens es
json_tokens-summary es =
    ap (λ l. begin_object ∷ key (codes "sources") ∷ begin_object ∷ (l ++ key (codes "version") ∷ number (decimal 1) ∷ end_object ∷ [])) (members_tokens-sources es)
    ∙ ap (λ l. begin_object ∷ key (codes "sources") ∷ begin_object ∷ l) (append_assoc (sources_tokens es) (end_object ∷ []) (key (codes "version") ∷ number (decimal 1) ∷ end_object ∷ []))

pub print-summary : (es : Entries) → print (summary_tokens es) ≡ numbers_text es
unfolding numbers_text
print-summary es = ap print (sym (json_tokens-summary es)) ∙ print-outline (numbers_data es)

four_pushed : (xs : List Token) (a b c d : Token) → (((xs ++ a ∷ []) ++ b ∷ []) ++ c ∷ []) ++ d ∷ [] ≡ xs ++ a ∷ b ∷ c ∷ d ∷ []
four_pushed xs a b c d = simp append_assoc

-- what is written after the sources
pub tokens_written : (es : Entries) (t0 t1 t2 t3 t4 : List Token) → t0 ≡ begin_object ∷ key (codes "sources") ∷ begin_object ∷ sources_tokens es
    → t1 ≡ t0 ++ end_object ∷ [] → t2 ≡ t1 ++ key (codes "version") ∷ [] → t3 ≡ t2 ++ number (decimal 1) ∷ [] → t4 ≡ t3 ++ end_object ∷ [] → t4 ≡ summary_tokens es
tokens_written es t0 t1 t2 t3 t4 all e1 e2 e3 e4 =
    e4 ∙ ap (λ l. l ++ end_object ∷ []) (e3 ∙ ap (λ l. l ++ number (decimal 1) ∷ []) (e2 ∙ ap (λ l. l ++ key (codes "version") ∷ []) (e1 ∙ ap (λ l. l ++ end_object ∷ []) all)))
    ∙ ap (λ l. begin_object ∷ key (codes "sources") ∷ begin_object ∷ l) (four_pushed (sources_tokens es) end_object (key (codes "version")) (number (decimal 1)) end_object)
