-- A name in a line, one character after another.
use Rattle.std.proofs.Common.{◌≡◌, ◌<◌, ◌+◌, ◌++◌, ◌∷◌, ℕ, List, [], Bool, true, false, cond, IsUtf8, ap, sym, ◌∙◌, append_assoc, append-nil, arith}
use Rattle.std.specs.Char.{digit_char, encode_utf8}
use Rattle.std.specs.Prelude.{nat_lt}
use Rattle.std.proofs.lemmas.Str.{chars_past_char, chars-nil, encode_ascii}
use Rattle.std.specs.List.{flat_map}
use Rattle.site_commands.specs.Lines.{name_char, printed_name}

-- a character was pushed, and the rest of the name is still to come
pub printed_name-next : (old new whole rest later : List ℕ) (c : ℕ) → new ≡ old ++ name_char c → IsUtf8 rest → rest ≡ encode_utf8 c ++ later
    → old ++ printed_name rest ≡ whole → new ++ printed_name later ≡ whole
printed_name-next old new whole rest later c pushed text parts before =
    ap (λ (l : List ℕ). l ++ printed_name later) pushed ∙ append_assoc old (name_char c) (printed_name later)
    ∙ ap (λ (l : List ℕ). old ++ l) (sym (ap (flat_map name_char) (chars_past_char rest later c text parts))) ∙ before

-- nothing of the name is still to come
pub printed_name-end : (line whole rest : List ℕ) → rest ≡ [] → line ++ printed_name rest ≡ whole → line ≡ whole
printed_name-end line whole rest none before =
    sym (append-nil line) ∙ ap (λ (l : List ℕ). line ++ l) (sym (ap printed_name none ∙ ap (flat_map name_char) chars-nil)) ∙ before

-- a hexadecimal digit is one byte
pub encode_utf8-digit : (d c : ℕ) → d < 16 → c ≡ digit_char d → encode_utf8 c ≡ digit_char d ∷ []
encode_utf8-digit d c small same = ap encode_utf8 same ∙ encode_ascii (digit_char d) (step (nat_lt d 10))
  where
    step : (b : Bool) → cond b (48 + d) (87 + d) < 128
    step true = omega arith
    step false = omega arith
