-- A name within a pointer is written a character at a time.
use Rattle.std.proofs.Common.{◌≡◌, ℕ, List, [], ◌++◌, IsUtf8, ap, sym, ◌∙◌, append_assoc, append-nil}
use Rattle.std.proofs.lemmas.Str.{chars-nil, chars_past_char}
use Rattle.std.specs.Char.{encode_utf8}
use Rattle.std.specs.List.{flat_map}
use Rattle.fault_lines.specs.Place.{key_char, name_in_pointer}

-- a character was pushed, and the rest of the name is still to come
pub key_text-next : (old new whole rest later : List ℕ) (c : ℕ) → new ≡ old ++ key_char c → IsUtf8 rest → rest ≡ encode_utf8 c ++ later
    → old ++ name_in_pointer rest ≡ whole → new ++ name_in_pointer later ≡ whole
key_text-next old new whole rest later c pushed text parts before =
    ap (λ (l : List ℕ). l ++ name_in_pointer later) pushed ∙ append_assoc old (key_char c) (name_in_pointer later)
    ∙ ap (λ (l : List ℕ). old ++ l) (sym (ap (flat_map key_char) (chars_past_char rest later c text parts))) ∙ before

-- nothing of the name is still to come
pub key_text-end : (key whole rest : List ℕ) → rest ≡ [] → key ++ name_in_pointer rest ≡ whole → key ≡ whole
key_text-end key whole rest none before =
    sym (append-nil key) ∙ ap (λ (l : List ℕ). key ++ l) (sym (ap name_in_pointer none ∙ ap (flat_map key_char) chars-nil)) ∙ before
