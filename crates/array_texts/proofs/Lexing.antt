-- The lexemes of a text that is cut at a comma or a bracket.
use Rattle.std.proofs.Common.{◌≡◌, ℕ, zero, suc, ◌<◌, ◌≤◌, Bool, true, false, ◌==◌, List, [], ◌∷◌, ◌++◌, length, Option, Some, None, refl, sym, ap, ◌∙◌, subst, arith}
use Rattle.std.proofs.lemmas.Bool.{false≢true}
use Rattle.std.specs.Prelude.{⊤}
use Rattle.json.specs.Token.{Token, bad}
use Rattle.json.specs.Text.{content, plain}
use Rattle.json.specs.Word.{word}
use Rattle.json.specs.Lex.{Lexeme, token, comma, colon, Mode, between, in_word, in_string, in_escape, Class, quote, backslash, operator, space, other, class, operator_lexeme, string_token, lex_byte, lex}
use Rattle.json.specs.Align.{is_good}
use Rattle.array_texts.proofs.Words.{Mark, byte, word_same}
use Rattle.array_texts.proofs.Words as words
use Rattle.array_texts.proofs.Strings.{Closed, closed}

-- no lexeme is bad
abbrev pub AllGood : List Lexeme → Type 0
AllGood [] = ⊤
AllGood (token t ∷ ls) = (is_good t ≡ true) × AllGood ls
AllGood (comma ∷ ls) = AllGood ls
AllGood (colon ∷ ls) = AllGood ls

rest_good : (l : Lexeme) (ls : List Lexeme) → AllGood (l ∷ ls) → AllGood ls
rest_good (token t) ls h = h.1
rest_good comma ls h = h
rest_good colon ls h = h

abbrev pub Outside : Mode → Type 0
Outside between = ⊤
Outside in_word = ⊤
Outside in_string = ⊥
Outside in_escape = ⊥

-- the lexemes up to the cut, whatever follows the mark
pub record Cut (m : Mode) (a : List ℕ) : Type 0 where
  pub front : List Lexeme
  pub is : (k : Mark) (z : List ℕ) → lex m (a ++ byte k ∷ z) ≡ front ++ lex between (byte k ∷ z)

led : (m n : Mode) (a b : List ℕ) (l : Lexeme) → ((k : Mark) (z : List ℕ) → lex m (a ++ byte k ∷ z) ≡ l ∷ lex n (b ++ byte k ∷ z)) → Cut n b → Cut m a
led m n a b l first c = record { front = l ∷ c.front; is = λ k z. first k z ∙ ap (λ ls. l ∷ ls) (c.is k z) }

passed : (m n : Mode) (a b : List ℕ) → ((k : Mark) (z : List ℕ) → lex m (a ++ byte k ∷ z) ≡ lex n (b ++ byte k ∷ z)) → Cut n b → Cut m a
passed m n a b first c = record { front = c.front; is = λ k z. first k z ∙ c.is k z }

text_of : (o : Option (List ℕ)) → is_good (string_token o) ≡ true → (s : List ℕ) × (o ≡ Some s)
text_of None h = absurd (false≢true h)
text_of (Some s) h = (s, refl)

ends : (k : Mark) (z : List ℕ) → lex in_word (byte k ∷ z) ≡ lex between (byte k ∷ z)
unfolding lex
ends words.comma z = refl
ends words.close z = refl

abbrev Cuts : Mode → List ℕ → Type 0
Cuts m a = AllGood (lex m (a ++ 93 ∷ [])) → Cut m a

-- the byte x of class c
byte_step : (m : Mode) (c : Class) (x : ℕ) (xs : List ℕ) → Outside m → class x ≡ c → Cuts between xs → Cuts in_word xs
    → ((post : List ℕ) → length post < length xs → Cuts between post)
    → AllGood (lex_byte m c x (xs ++ 93 ∷ []) (λ n. lex n (xs ++ 93 ∷ []))) → Cut m (x ∷ xs)
unfolding lex
byte_step between quote x xs out e at_between at_word shorter good =
    let s = text_of (content plain (xs ++ 93 ∷ [])) good.0 in
    let c : Closed plain xs = closed plain xs s.0 s.1 in
    let is : (z : List ℕ) → content plain (xs ++ z) ≡ Some s.0 = λ z. c.same z ∙ s.1 in
    let rest = shorter c.post c.shorter (subst AllGood (c.passes (93 ∷ [])) good.1) in
    led between between (x ∷ xs) c.post (token (Token.string s.0))
    (λ k z. ap (λ d. lex_byte between d x (xs ++ byte k ∷ z) (λ n. lex n (xs ++ byte k ∷ z))) e ∙ ap (λ o. token (string_token o) ∷ lex in_string (xs ++ byte k ∷ z)) (is (byte k ∷ z)) ∙ ap (λ ls. token (Token.string s.0) ∷ ls) (c.passes (byte k ∷ z)))
    rest
byte_step between backslash x xs out e at_between at_word shorter good = absurd (false≢true good.0)
byte_step between operator x xs out e at_between at_word shorter good =
    led between between (x ∷ xs) xs (operator_lexeme x) (λ k z. ap (λ d. lex_byte between d x (xs ++ byte k ∷ z) (λ n. lex n (xs ++ byte k ∷ z))) e) (at_between (rest_good (operator_lexeme x) (lex between (xs ++ 93 ∷ [])) good))
byte_step between space x xs out e at_between at_word shorter good =
    passed between between (x ∷ xs) xs (λ k z. ap (λ d. lex_byte between d x (xs ++ byte k ∷ z) (λ n. lex n (xs ++ byte k ∷ z))) e) (at_between good)
byte_step between other x xs out e at_between at_word shorter good =
    led between in_word (x ∷ xs) xs (token (word (x ∷ xs)))
    (λ k z. ap (λ d. lex_byte between d x (xs ++ byte k ∷ z) (λ n. lex n (xs ++ byte k ∷ z))) e ∙ ap (λ t. token t ∷ lex in_word (xs ++ byte k ∷ z)) (word_same k z x xs)) (at_word good.1)
byte_step in_word quote x xs out e at_between at_word shorter good =
    passed in_word in_word (x ∷ xs) xs (λ k z. ap (λ d. lex_byte in_word d x (xs ++ byte k ∷ z) (λ n. lex n (xs ++ byte k ∷ z))) e) (at_word good)
byte_step in_word backslash x xs out e at_between at_word shorter good =
    passed in_word in_word (x ∷ xs) xs (λ k z. ap (λ d. lex_byte in_word d x (xs ++ byte k ∷ z) (λ n. lex n (xs ++ byte k ∷ z))) e) (at_word good)
byte_step in_word operator x xs out e at_between at_word shorter good =
    led in_word between (x ∷ xs) xs (operator_lexeme x) (λ k z. ap (λ d. lex_byte in_word d x (xs ++ byte k ∷ z) (λ n. lex n (xs ++ byte k ∷ z))) e) (at_between (rest_good (operator_lexeme x) (lex between (xs ++ 93 ∷ [])) good))
byte_step in_word space x xs out e at_between at_word shorter good =
    passed in_word between (x ∷ xs) xs (λ k z. ap (λ d. lex_byte in_word d x (xs ++ byte k ∷ z) (λ n. lex n (xs ++ byte k ∷ z))) e) (at_between good)
byte_step in_word other x xs out e at_between at_word shorter good =
    passed in_word in_word (x ∷ xs) xs (λ k z. ap (λ d. lex_byte in_word d x (xs ++ byte k ∷ z) (λ n. lex n (xs ++ byte k ∷ z))) e) (at_word good)
byte_step in_string c x xs out e at_between at_word shorter good = absurd out
byte_step in_escape c x xs out e at_between at_word shorter good = absurd out

cuts : (n : ℕ) (m : Mode) (a : List ℕ) → length a ≤ n → Outside m → Cuts m a
unfolding lex
cuts n between [] le out good = record { front = []; is = λ k z. refl }
cuts n in_word [] le out good = record { front = []; is = ends }
cuts n in_string [] le out good = absurd out
cuts n in_escape [] le out good = absurd out
cuts zero m (x ∷ xs) le out good = let never : ⊥ = omega arith in absurd never
cuts (suc n) m (x ∷ xs) le out good =
    byte_step m (class x) x xs out refl (cuts n between xs (omega arith) tt) (cuts n in_word xs (omega arith) tt) (λ post less. cuts n between post (omega arith) tt) good

-- a text that is good up to a bracket at its end is so up to a comma in its place
pub cut : (a : List ℕ) → AllGood (lex between (a ++ 93 ∷ [])) → Cut between a
cut a good = cuts (length a) between a (omega arith) tt good
