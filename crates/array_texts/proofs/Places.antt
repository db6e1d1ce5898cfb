-- The tokens of lexemes that are cut where a value has ended.
use Rattle.std.proofs.Common.{◌≡◌, ℕ, Bool, true, false, List, [], ◌∷◌, ◌++◌, refl, sym, ap, ◌∙◌, subst}
use Rattle.std.proofs.lemmas.Bool.{false≢true, true≢false}
use Rattle.std.specs.Prelude.{⊤}
use Rattle.json.specs.Token.{Token, begin_object, end_object, begin_array, end_array, key, string, number, boolean, null, bad}
use Rattle.json.specs.Lex.{Lexeme, token, comma, colon, Place, fresh, after_value, after_comma, after_key, begins_colon, may_begin, may_close, if_allowed, place_token, punctuate}
use Rattle.json.specs.Align.{is_good}
use Rattle.array_texts.proofs.Lexing.{AllGood}

-- no token is bad
abbrev pub NoBad : List Token → Type 0
NoBad [] = ⊤
NoBad (t ∷ ts) = (is_good t ≡ true) × NoBad ts

-- a value ends with the token
abbrev pub is_end : Token → Bool
is_end begin_object = false
is_end end_object = true
is_end begin_array = false
is_end end_array = true
is_end (key s) = false
is_end (string s) = true
is_end (number s) = true
is_end (boolean b) = true
is_end null = true
is_end bad = false

-- whether a value ends with the last token; b where there is none
abbrev pub lasts : Bool → List Token → Bool
lasts b [] = b
lasts b (t ∷ ts) = lasts (is_end t) ts

abbrev pub value_like : Place → Bool
value_like fresh = false
value_like after_value = true
value_like after_comma = true
value_like after_key = false

pub record Placed (p : Place) (ls : List Lexeme) : Type 0 where
  pub front : List Token
  pub at : Place
  pub closes : may_close at ≡ true
  pub is : (rest : List Lexeme) → begins_colon rest ≡ false → punctuate p (ls ++ rest) ≡ front ++ punctuate at rest
  pub value : lasts (value_like p) front ≡ true → at ≡ after_value

abbrev Places : Place → List Lexeme → Type 0
Places p ls = NoBad (punctuate p (ls ++ token end_array ∷ [])) → Placed p ls

-- ---- where the text is good, so are the lexemes

allowed_good : (b : Bool) (t : Token) (next : Place) (ls : List Lexeme) → is_good t ≡ true → (NoBad (punctuate next ls) → AllGood ls) → NoBad (if_allowed b t (λ n. punctuate n ls) next) → AllGood (token t ∷ ls)
allowed_good true t next ls good rest h = (good, rest h.1)
allowed_good false t next ls good rest h = absurd (false≢true h.0)

token_good : (p : Place) (t : Token) (b : Bool) (ls : List Lexeme) → ((n : Place) → NoBad (punctuate n ls) → AllGood ls) → NoBad (place_token p t b (λ n. punctuate n ls)) → AllGood (token t ∷ ls)
token_good p begin_object b ls rest h = allowed_good (may_begin p) begin_object fresh ls refl (rest fresh) h
token_good p end_object b ls rest h = allowed_good (may_close p) end_object after_value ls refl (rest after_value) h
token_good p begin_array b ls rest h = allowed_good (may_begin p) begin_array fresh ls refl (rest fresh) h
token_good p end_array b ls rest h = allowed_good (may_close p) end_array after_value ls refl (rest after_value) h
token_good p (key s) b ls rest h = absurd (false≢true h.0)
token_good p (string s) true ls rest h = let g = allowed_good (may_begin p) (key s) after_key ls refl (rest after_key) h in (refl, g.1)
token_good p (string s) false ls rest h = allowed_good (may_begin p) (string s) after_value ls refl (rest after_value) h
token_good p (number s) b ls rest h = allowed_good (may_begin p) (number s) after_value ls refl (rest after_value) h
token_good p (boolean v) b ls rest h = allowed_good (may_begin p) (boolean v) after_value ls refl (rest after_value) h
token_good p null b ls rest h = allowed_good (may_begin p) null after_value ls refl (rest after_value) h
token_good p bad b ls rest h = absurd (false≢true h.0)

pub all_good : (p : Place) (ls : List Lexeme) → NoBad (punctuate p ls) → AllGood ls
unfolding punctuate
all_good p [] h = tt
all_good p (token t ∷ ls) h = token_good p t (begins_colon ls) ls (λ n. all_good n ls) h
all_good fresh (comma ∷ ls) h = absurd (false≢true h.0)
all_good after_value (comma ∷ ls) h = all_good after_comma ls h
all_good after_comma (comma ∷ ls) h = absurd (false≢true h.0)
all_good after_key (comma ∷ ls) h = absurd (false≢true h.0)
all_good fresh (colon ∷ ls) h = absurd (false≢true h.0)
all_good after_value (colon ∷ ls) h = absurd (false≢true h.0)
all_good after_comma (colon ∷ ls) h = absurd (false≢true h.0)
all_good after_key (colon ∷ ls) h = all_good fresh ls h

-- ---- the cut

abbrev last : List Lexeme
last = token end_array ∷ []

step_allowed : (p next : Place) (l : Lexeme) (t : Token) (ls : List Lexeme) (b : Bool) → is_end t ≡ value_like next
    → ((rest : List Lexeme) → begins_colon rest ≡ false → punctuate p (l ∷ (ls ++ rest)) ≡ if_allowed b t (λ n. punctuate n (ls ++ rest)) next)
    → Places next ls → NoBad (if_allowed b t (λ n. punctuate n (ls ++ last)) next) → Placed p (l ∷ ls)
step_allowed p next l t ls true like is rest h =
    let r = rest h.1 in
    record {
      front = t ∷ r.front;
      at = r.at;
      closes = r.closes;
      is = λ more colon. is more colon ∙ ap (λ ts. t ∷ ts) (r.is more colon);
      value = λ e. r.value (ap (λ b. lasts b r.front) (sym like) ∙ e);
    }
step_allowed p next l t ls false like is rest h = absurd (false≢true h.0)

step_passed : (p next : Place) (l : Lexeme) (ls : List Lexeme) → value_like p ≡ value_like next → ((rest : List Lexeme) → punctuate p (l ∷ (ls ++ rest)) ≡ punctuate next (ls ++ rest))
    → Placed next ls → Placed p (l ∷ ls)
step_passed p next l ls like is r =
    record {
      front = r.front;
      at = r.at;
      closes = r.closes;
      is = λ more colon. is more ∙ r.is more colon;
      value = λ e. r.value (ap (λ b. lasts b r.front) (sym like) ∙ e);
    }

colon_same : (ls rest : List Lexeme) → begins_colon rest ≡ false → begins_colon (ls ++ rest) ≡ begins_colon ls
colon_same [] rest h = h
colon_same (token t ∷ ls) rest h = refl
colon_same (comma ∷ ls) rest h = refl
colon_same (colon ∷ ls) rest h = refl

-- the place_token of each token, by whether a colon follows
step_token : (p : Place) (t : Token) (ls : List Lexeme) (b : Bool) → begins_colon ls ≡ b → ((n : Place) → Places n ls)
    → NoBad (place_token p t b (λ n. punctuate n (ls ++ last))) → Placed p (token t ∷ ls)
unfolding punctuate
step_token p begin_object ls b e rest h = step_allowed p fresh (token begin_object) begin_object ls (may_begin p) refl (λ more colon. refl) (rest fresh) h
step_token p end_object ls b e rest h = step_allowed p after_value (token end_object) end_object ls (may_close p) refl (λ more colon. refl) (rest after_value) h
step_token p begin_array ls b e rest h = step_allowed p fresh (token begin_array) begin_array ls (may_begin p) refl (λ more colon. refl) (rest fresh) h
step_token p end_array ls b e rest h = step_allowed p after_value (token end_array) end_array ls (may_close p) refl (λ more colon. refl) (rest after_value) h
step_token p (key s) ls b e rest h = absurd (false≢true h.0)
step_token p (string s) ls true e rest h =
    step_allowed p after_key (token (string s)) (key s) ls (may_begin p) refl (λ more colon. ap (λ c. place_token p (string s) c (λ n. punctuate n (ls ++ more))) (colon_same ls more colon ∙ e)) (rest after_key) h
step_token p (string s) ls false e rest h =
    step_allowed p after_value (token (string s)) (string s) ls (may_begin p) refl (λ more colon. ap (λ c. place_token p (string s) c (λ n. punctuate n (ls ++ more))) (colon_same ls more colon ∙ e)) (rest after_value) h
step_token p (number s) ls b e rest h = step_allowed p after_value (token (number s)) (number s) ls (may_begin p) refl (λ more colon. refl) (rest after_value) h
step_token p (boolean v) ls b e rest h = step_allowed p after_value (token (boolean v)) (boolean v) ls (may_begin p) refl (λ more colon. refl) (rest after_value) h
step_token p null ls b e rest h = step_allowed p after_value (token null) null ls (may_begin p) refl (λ more colon. refl) (rest after_value) h
step_token p bad ls b e rest h = absurd (false≢true h.0)

pub placed : (p : Place) (ls : List Lexeme) → Places p ls
unfolding punctuate
placed fresh [] h = record { front = []; at = fresh; closes = refl; is = λ rest colon. refl; value = λ e. absurd (false≢true e) }
placed after_value [] h = record { front = []; at = after_value; closes = refl; is = λ rest colon. refl; value = λ e. refl }
placed after_comma [] h = absurd (false≢true h.0)
placed after_key [] h = absurd (false≢true h.0)
placed p (token t ∷ ls) h =
    step_token p t ls (begins_colon ls) refl (λ n. placed n ls) (subst (λ c. NoBad (place_token p t c (λ n. punctuate n (ls ++ last)))) (colon_same ls last refl) h)
placed fresh (comma ∷ ls) h = absurd (false≢true h.0)
placed after_value (comma ∷ ls) h = step_passed after_value after_comma comma ls refl (λ rest. refl) (placed after_comma ls h)
placed after_comma (comma ∷ ls) h = absurd (false≢true h.0)
placed after_key (comma ∷ ls) h = absurd (false≢true h.0)
placed fresh (colon ∷ ls) h = absurd (false≢true h.0)
placed after_value (colon ∷ ls) h = absurd (false≢true h.0)
placed after_comma (colon ∷ ls) h = absurd (false≢true h.0)
placed after_key (colon ∷ ls) h = step_passed after_key fresh colon ls refl (λ rest. refl) (placed fresh ls h)
