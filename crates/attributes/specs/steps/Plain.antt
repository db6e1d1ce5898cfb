-- Texts that stand in JSON as they are between quotation marks (RFC 8259, section 7).
use Rattle.std.specs.Prelude.{ℕ, List, Bool, not, ◌&&◌, ◌==◌, nat_le}
use Rattle.std.specs.List.{list_all}

-- a byte of an attribute that is no control character, quotation mark or backslash
abbrev pub is_plain_byte : ℕ → Bool
is_plain_byte b = nat_le 32 b && (not (b == 34) && not (b == 92))

-- an attribute's text without control characters, quotation marks and backslashes
abbrev pub is_plain : List ℕ → Bool
is_plain text = list_all is_plain_byte text
