-- What is written of JSON, token by token.
use Rattle.std.specs.Prelude.{◌≡◌, ℕ, List, [], ◌∷◌, ◌++◌, codes, decimal}
use Rattle.json.specs.Token.{Token, begin_object, end_object, key, number, string}
use Rattle.json.specs.Written.{Written}

-- these tokens of a line on a database were written behind what stood there
abbrev pub AddsTokens : Written → Written → List Token → Type 0
AddsTokens old new ts = (new.before ≡ old.before) × (new.tokens ≡ old.tokens ++ ts)

-- a member with a number, and one with a text, of a line on a database
abbrev pub number_member : List ℕ → ℕ → List Token
number_member name n = key name ∷ number (decimal n) ∷ []

abbrev pub text_member : List ℕ → List ℕ → List Token
text_member name text = key name ∷ string text ∷ []

-- the tokens of a line that tells of a database's service
abbrev pub service_tokens : List ℕ → ℕ → ℕ → ℕ → List Token
service_tokens source base orders rows =
    begin_object ∷ number_member (codes "base") base ++ number_member (codes "orders") orders
    ++ number_member (codes "rows") rows ++ text_member (codes "source") source ++ end_object ∷ []

-- the tokens of a line that tells of a database's trouble
abbrev pub trouble_tokens : List ℕ → List ℕ → List ℕ → List Token
trouble_tokens db fault hint = begin_object ∷ text_member (codes "db") db
    ++ text_member (codes "fault") fault ++ text_member (codes "hint") hint ++ end_object ∷ []
