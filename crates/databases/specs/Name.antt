-- Names of databases.
use Rattle.std.specs.Prelude.{◌≡◌, ◌⊎◌, ◌++◌, ℕ, List, [], codes}

-- to SQLite the name means a database in memory or one of its own for a while, or it is a URI
abbrev pub IsNoFile : List ℕ → Type 0
IsNoFile name = (name ≡ []) ⊎ ((name ≡ codes ":memory:")
    ⊎ ((rest : List ℕ) × (name ≡ codes "file:" ++ rest)))
