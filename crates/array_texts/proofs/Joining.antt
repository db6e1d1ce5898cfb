-- Two arrays' texts, joined at a comma, are one array's text.
use Rattle.std.proofs.Common.{◌≡◌, ◌≢◌, ℕ, zero, suc, ◌+◌, ◌-◌, ◌<◌, ◌≤◌, Bool, true, false, List, [], ◌∷◌, ◌++◌, length, Option, Some, None, option_map, option_and_then, refl, sym, ap, ap₂, ◌∙◌, subst, arith, append_assoc, append-nil, length-append}
use Rattle.std.proofs.lemmas.List.{append_cancel_right}
use Rattle.std.specs.Prelude.{⊤}
use Rattle.json.specs.Token.{Token, begin_object, end_object, begin_array, end_array, key, string, number, boolean, null, bad}
use Rattle.json.specs.Lex.{Lexeme, token, comma, colon, between, lex, Place, fresh, after_value, after_comma, after_key, begins_colon, may_begin, may_close, if_allowed, place_token, punctuate, tokens}
use Rattle.json.specs.Json as json
use Rattle.json.specs.Json.{Json, Items, no_items, item, Members, Parse, parse_map, items, members, value_with, value, if_last}
use Rattle.json.proofs.Grammar.{value-begin_array}
use Rattle.serde_json.specs.Data as tree
use Rattle.serde_json.specs.Data.{Data}
use Rattle.serde_json.specs.Read.{of_json, of_items, of_members, number_of, read}
use Rattle.array_texts.specs.Arrays.{append_items, HasItems, JoinTexts}
use Rattle.array_texts.proofs.Words as words
use Rattle.array_texts.proofs.Lexing.{AllGood, Cut, cut}
use Rattle.array_texts.proofs.Places.{NoBad, is_end, lasts, value_like, Placed, placed, all_good}
use Rattle.array_texts.proofs.Parsing.{append, Taken, nothing, same_first, Turned, Listed, listed, turned, over, goes_on, no_turn}
use Rattle.array_texts.proofs.Values.{value_local, mapped}

-- ---- a value, by its depth

abbrev nested_items : ℕ → Parse Items
nested_items zero ts = None
nested_items (suc d) ts = items (value d) (length ts) ts

abbrev nested_members : ℕ → Parse Members
nested_members zero ts = None
nested_members (suc d) ts = members (value d) (length ts) ts

value_is : (depth : ℕ) (ts : List Token) → value depth ts ≡ value_with (nested_items depth) (nested_members depth) ts
unfolding value
value_is zero ts = refl
value_is (suc d) ts = refl

-- ---- an array comes of an opening bracket

inv_array : (a : Parse Items) (o : Parse Members) (ts : List Token) (js : Items) (r : List Token) → value_with a o ts ≡ Some (json.array js, r) → (us : List Token) × (ts ≡ begin_array ∷ us) × (a us ≡ Some (js, r))
inv_array a o [] js r h = nothing (json.array js, r) h
inv_array a o (begin_object ∷ ts) js r h = let m = mapped json.object (json.array js) r (o ts) h in let e = m.2 in absurd (cc)
inv_array a o (end_object ∷ ts) js r h = nothing (json.array js, r) h
inv_array a o (begin_array ∷ ts) js r h = let m = mapped json.array (json.array js) r (a ts) h in let e = m.2 in let same : m.0 ≡ js = cc in (ts, refl, m.1 ∙ ap (λ x. Some (x, r)) same)
inv_array a o (end_array ∷ ts) js r h = nothing (json.array js, r) h
inv_array a o (key s ∷ ts) js r h = nothing (json.array js, r) h
inv_array a o (string s ∷ ts) js r h = let e = same_first (json.string s) (json.array js) ts r h in absurd (cc)
inv_array a o (number s ∷ ts) js r h = let e = same_first (json.number s) (json.array js) ts r h in absurd (cc)
inv_array a o (boolean b ∷ ts) js r h = let e = same_first (json.boolean b) (json.array js) ts r h in absurd (cc)
inv_array a o (null ∷ ts) js r h = let e = same_first (json.null) (json.array js) ts r h in absurd (cc)
inv_array a o (bad ∷ ts) js r h = nothing (json.array js, r) h

array_of : (ts : List Token) (js : Items) → value 127 ts ≡ Some (json.array js, []) → (us : List Token) × (ts ≡ begin_array ∷ us) × (items (value 126) (length us) us ≡ Some (js, []))
array_of ts js h = inv_array (nested_items 127) (nested_members 127) ts js [] (sym (value_is 127 ts) ∙ h)

-- ---- the first text

any_start : (u : List Token) → 0 < length u → lasts false u ≡ lasts true u
any_start [] h = let never : ⊥ = omega arith in absurd never
any_start (t ∷ u) h = refl

-- the tokens before the closing bracket, and where they leave the reader, whatever follows a comma
record Front (f : List ℕ) (js : Items) : Type 0 where
  used : List Token
  is : (t : List ℕ) → tokens (f ++ 44 ∷ t) ≡ begin_array ∷ (used ++ punctuate after_comma (lex between t))
  again : (m : ℕ) (more rest : List Token) (ks : Items) → items (value 126) m more ≡ Some (ks, rest) → items (value 126) (length used + m) (used ++ more) ≡ Some (append js ks, rest)

closing : (p : Place) → may_close p ≡ true → punctuate p (token end_array ∷ []) ≡ end_array ∷ []
unfolding punctuate
closing p h = ap (λ b. if_allowed b end_array (λ n. punctuate n []) after_value) h

at_close : lex between (93 ∷ []) ≡ token end_array ∷ []
unfolding lex
at_close = refl

at_comma : (t : List ℕ) → lex between (44 ∷ t) ≡ comma ∷ lex between t
unfolding lex
at_comma t = refl

past_comma : (p : Place) (ls : List Lexeme) → p ≡ after_value → punctuate p (comma ∷ ls) ≡ punctuate after_comma ls
unfolding punctuate
past_comma p ls e = ap (λ q. punctuate q (comma ∷ ls)) e

front : (f : List ℕ) (js : Items) → js ≢ no_items → value 127 (tokens (f ++ 93 ∷ [])) ≡ Some (json.array js, []) → Front f js
front f js some h =
    let ts = tokens (f ++ 93 ∷ []) in
    let taken = value_local 127 ts [] (json.array js) h in
    let good : NoBad ts = subst NoBad (sym (taken.is ∙ append-nil taken.used)) taken.good in
    let c = cut f (all_good fresh (lex between (f ++ 93 ∷ [])) good) in
    let lexed : lex between (f ++ 93 ∷ []) ≡ c.front ++ token end_array ∷ [] = c.is words.close [] ∙ ap (λ l. c.front ++ l) at_close in
    let q = placed fresh c.front (subst (λ l. NoBad (punctuate fresh l)) lexed good) in
    let whole : ts ≡ q.front ++ end_array ∷ [] = ap (punctuate fresh) lexed ∙ q.is (token end_array ∷ []) refl ∙ ap (λ l. q.front ++ l) (closing q.at q.closes) in
    let a = array_of ts js h in
    let l = listed (value 126) (length a.0) a.0 js [] (value_local 126) a.2 in
    let same : q.front ≡ begin_array ∷ l.used = append_cancel_right q.front (begin_array ∷ l.used) (end_array ∷ []) (sym whole ∙ a.1 ∙ ap (λ s. begin_array ∷ s) l.is) in
    let after : q.at ≡ after_value = q.value (ap (lasts false) same ∙ any_start l.used (l.some some) ∙ l.ends) in
    record {
      used = l.used;
      is = λ t.
          ap (punctuate fresh) (c.is words.comma t ∙ ap (λ s. c.front ++ s) (at_comma t)) ∙ q.is (comma ∷ lex between t) refl
          ∙ ap (λ s. q.front ++ s) (past_comma q.at (lex between t) after) ∙ ap (λ s. s ++ punctuate after_comma (lex between t)) same;
      again = l.again;
    }

-- ---- the second text

abbrev Opens : List Token → Type 0
Opens [] = ⊥
Opens (begin_object ∷ ts) = ⊤
Opens (end_object ∷ ts) = ⊥
Opens (begin_array ∷ ts) = ⊤
Opens (end_array ∷ ts) = ⊥
Opens (key s ∷ ts) = ⊤
Opens (string s ∷ ts) = ⊤
Opens (number s ∷ ts) = ⊤
Opens (boolean b ∷ ts) = ⊤
Opens (null ∷ ts) = ⊤
Opens (bad ∷ ts) = ⊤

value_opens : (a : Parse Items) (o : Parse Members) (ts : List Token) (j : Json) (r : List Token) → value_with a o ts ≡ Some (j, r) → Opens ts
value_opens a o [] j r h = nothing (j, r) h
value_opens a o (begin_object ∷ ts) j r h = tt
value_opens a o (end_object ∷ ts) j r h = nothing (j, r) h
value_opens a o (begin_array ∷ ts) j r h = tt
value_opens a o (end_array ∷ ts) j r h = nothing (j, r) h
value_opens a o (key s ∷ ts) j r h = tt
value_opens a o (string s ∷ ts) j r h = tt
value_opens a o (number s ∷ ts) j r h = tt
value_opens a o (boolean b ∷ ts) j r h = tt
value_opens a o (null ∷ ts) j r h = tt
value_opens a o (bad ∷ ts) j r h = tt

turn_opens : (n : ℕ) (ts : List Token) (ks : Items) (r : List Token) → ks ≢ no_items → Turned (value 126) n ts ks r → Opens ts
turn_opens n ts ks r some (over e h) = absurd (some e)
turn_opens n ts ks r some (goes_on j s ls e none one rest) = value_opens (nested_items 126) (nested_members 126) ts j s (sym (value_is 126 ts) ∙ one)

items_open : (n : ℕ) (ts : List Token) (ks : Items) (r : List Token) → ks ≢ no_items → items (value 126) n ts ≡ Some (ks, r) → Opens ts
items_open zero ts ks r some h = no_turn (value 126) ts ks r h
items_open (suc n) ts ks r some h = turn_opens n ts ks r some (turned (value 126) n ts ks r h)

text_same : (s : List ℕ) (b : Bool) (k : Place → List Token) → place_token after_comma (string s) b k ≡ place_token fresh (string s) b k
text_same s true k = refl
text_same s false k = refl

after_comma_same : (ls : List Lexeme) → Opens (punctuate fresh ls) → punctuate after_comma ls ≡ punctuate fresh ls
unfolding punctuate
after_comma_same [] h = absurd h
after_comma_same (token begin_object ∷ ls) h = refl
after_comma_same (token end_object ∷ ls) h = absurd h
after_comma_same (token begin_array ∷ ls) h = refl
after_comma_same (token end_array ∷ ls) h = absurd h
after_comma_same (token (key s) ∷ ls) h = refl
after_comma_same (token (string s) ∷ ls) h = text_same s (begins_colon ls) (λ n. punctuate n ls)
after_comma_same (token (number s) ∷ ls) h = refl
after_comma_same (token (boolean b) ∷ ls) h = refl
after_comma_same (token null ∷ ls) h = refl
after_comma_same (token bad ∷ ls) h = refl
after_comma_same (comma ∷ ls) h = refl
after_comma_same (colon ∷ ls) h = refl

open_tokens : (t : List ℕ) → tokens (91 ∷ t) ≡ begin_array ∷ punctuate fresh (lex between t)
unfolding lex punctuate
open_tokens t = refl

back : (t : List ℕ) (ks : Items) → value 127 (tokens (91 ∷ t)) ≡ Some (json.array ks, [])
    → items (value 126) (length (punctuate fresh (lex between t))) (punctuate fresh (lex between t)) ≡ Some (ks, [])
back t ks h =
    let ts = punctuate fresh (lex between t) in
    let m = mapped json.array (json.array ks) [] (items (value 126) (length ts) ts) (sym (value-begin_array 127 ts (omega arith)) ∙ ap (value 127) (sym (open_tokens t)) ∙ h) in
    let e = m.2 in
    let same : m.0 ≡ ks = cc in
    m.1 ∙ ap (λ x. Some (x, [])) same

-- ---- both

joined : (f t : List ℕ) (js ks : Items) → js ≢ no_items → ks ≢ no_items → value 127 (tokens (f ++ 93 ∷ [])) ≡ Some (json.array js, []) → value 127 (tokens (91 ∷ t)) ≡ Some (json.array ks, [])
    → value 127 (tokens (f ++ 44 ∷ t)) ≡ Some (json.array (append js ks), [])
joined f t js ks some_js some_ks one two =
    let a = front f js some_js one in
    let ts = punctuate fresh (lex between t) in
    let b = back t ks two in
    let same : punctuate after_comma (lex between t) ≡ ts = after_comma_same (lex between t) (items_open (length ts) ts ks [] some_ks b) in
    ap (value 127) (a.is t ∙ ap (λ s. begin_array ∷ (a.used ++ s)) same) ∙ value-begin_array 127 (a.used ++ ts) (omega arith)
    ∙ ap (parse_map json.array) (ap (λ n. items (value 126) n (a.used ++ ts)) (length-append a.used ts) ∙ a.again (length ts) ts [] ks b)

-- ---- and as data

none_left : {A P : Type 0} (a : A) → None ≡ Some a → P
none_left a h = absurd (cc)

array_items : (xs : tree.Items) (o : Option tree.Items) → option_map tree.array o ≡ Some (tree.array xs) → o ≡ Some xs
array_items xs None h = none_left (tree.array xs) h
array_items xs (Some ys) h = let same : ys ≡ xs = cc in ap Some same

no_number : {P : Type 0} (xs : tree.Items) (o : Option tree.Num) → option_map tree.number o ≡ Some (tree.array xs) → P
no_number xs None h = none_left (tree.array xs) h
no_number xs (Some n) h = absurd (cc)

no_object : {P : Type 0} (xs : tree.Items) (o : Option tree.Members) → option_map tree.object o ≡ Some (tree.array xs) → P
no_object xs None h = none_left (tree.array xs) h
no_object xs (Some n) h = absurd (cc)

json_array : (j : Json) (xs : tree.Items) → of_json j ≡ Some (tree.array xs) → (js : Items) × (j ≡ json.array js) × (of_items js ≡ Some xs)
json_array json.null xs h = absurd (cc)
json_array (json.boolean b) xs h = absurd (cc)
json_array (json.number s) xs h = no_number xs (number_of s) h
json_array (json.string s) xs h = absurd (cc)
json_array (json.array js) xs h = (js, refl, array_items xs (of_items js) h)
json_array (json.object ms) xs h = no_object xs (of_members ms tree.no_members) h

abbrev whole : Option (Json × List Token) → Option Data
whole o = option_and_then of_json (option_and_then (λ p. if_last p.0 p.1) o)

read_array : (o : Option (Json × List Token)) (xs : tree.Items) → whole o ≡ Some (tree.array xs) → (js : Items) × (o ≡ Some (json.array js, [])) × (of_items js ≡ Some xs)
read_array None xs h = none_left (tree.array xs) h
read_array (Some (j, [])) xs h = let a = json_array j xs h in (a.0, ap (λ x. Some (x, [])) a.1, a.2)
read_array (Some (j, t ∷ r)) xs h = none_left (tree.array xs) h

data_more : (ks : Items) (ys : tree.Items) (d : Data) (xs : tree.Items) (js : Items) (o : Option tree.Items) → option_map (tree.item d) o ≡ Some xs
    → ((zs : tree.Items) → o ≡ Some zs → of_items (append js ks) ≡ Some (append_items zs ys)) → option_map (tree.item d) (of_items (append js ks)) ≡ Some (append_items xs ys)
data_more ks ys d xs js None h again = none_left xs h
data_more ks ys d xs js (Some zs) h again =
    let same : tree.item d zs ≡ xs = cc in
    ap (option_map (tree.item d)) (again zs refl) ∙ ap (λ z. Some (append_items z ys)) same

data_step : (ks : Items) (ys xs : tree.Items) (js : Items) (o : Option Data) → option_and_then (λ d. option_map (tree.item d) (of_items js)) o ≡ Some xs
    → ((zs : tree.Items) → of_items js ≡ Some zs → of_items (append js ks) ≡ Some (append_items zs ys))
    → option_and_then (λ d. option_map (tree.item d) (of_items (append js ks))) o ≡ Some (append_items xs ys)
data_step ks ys xs js None h again = none_left xs h
data_step ks ys xs js (Some d) h again = data_more ks ys d xs js (of_items js) h again

of_items-append : (js ks : Items) (xs ys : tree.Items) → of_items js ≡ Some xs → of_items ks ≡ Some ys → of_items (append js ks) ≡ Some (append_items xs ys)
of_items-append no_items ks xs ys a b = let none : tree.no_items ≡ xs = cc in b ∙ ap (λ z. Some (append_items z ys)) none
of_items-append (item j js) ks xs ys a b = data_step ks ys xs js (of_json j) a (λ zs c. of_items-append js ks zs ys c b)

some_items : (js : Items) (xs : tree.Items) → of_items js ≡ Some xs → HasItems xs → js ≢ no_items
some_items js xs h some e = let none : tree.no_items ≡ xs = (let g = ap of_items (sym e) ∙ h in cc) in subst HasItems (sym none) some

pub join_texts : JoinTexts
join_texts f t xs ys a b some_xs some_ys =
    let p = read_array (value 127 (tokens (f ++ 93 ∷ []))) xs a in
    let q = read_array (value 127 (tokens (91 ∷ t))) ys b in
    ap whole (joined f t p.0 q.0 (some_items p.0 xs p.2 some_xs) (some_items q.0 ys q.2 some_ys) p.1 q.1) ∙ ap (option_map tree.array) (of_items-append p.0 q.0 xs ys p.2 q.2)
