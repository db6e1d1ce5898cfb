-- Texts in JSON (RFC 8259).
use Rattle.std.specs.Prelude.{◌≡◌, ℕ, List, Some, IsUtf8}
use Rattle.serde_json.specs.Data.{Data}
use Rattle.serde_json.specs.Read.{read}

-- the bytes are a JSON text with this value; of a name that stands twice the last value counts
abbrev pub IsJsonText : List ℕ → Data → Type 0
IsJsonText bytes value = IsUtf8 bytes × (read bytes ≡ Some value)
