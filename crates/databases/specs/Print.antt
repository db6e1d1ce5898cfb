-- What the commands over a database print. Each line ends with LF.
use Rattle.std.specs.Prelude.{◌≡◌, ◌≢◌, ◌⊎◌, ◌-◌, ℕ, List, [], ◌∷◌, ◌++◌, codes}
use Rattle.std.specs.Fmt.{decimal}
use Rattle.serde_json.specs.Data.{unsigned, Data, number, string, object, no_members, member}
use Rattle.serde_json.specs.Written.{compact_text}
use Rattle.attributes.specs.Event.{EventValue, text}
use Rattle.event_json.specs.BatchText.{batch_text}
pub use Rattle.event_json.specs.BatchText.{batch_line, event_line}
pub use Rattle.coverage.specs.SummaryText.{WithoutLineEnd}

-- how many events were read for a database, how many of them were new, and how many were there
abbrev pub counts_line : ℕ → ℕ → List ℕ
counts_line read fresh = codes "read " ++ decimal read ++ codes " new " ++ decimal fresh
    ++ codes " repeated " ++ decimal (read - fresh) ++ 10 ∷ []

-- {"base":B,"orders":N,"rows":N,"source":S}, which tells of a database's service
abbrev pub service_data : List ℕ → ℕ → ℕ → ℕ → Data
service_data source base orders rows =
    object (member (codes "base") (number (unsigned base))
    (member (codes "orders") (number (unsigned orders))
    (member (codes "rows") (number (unsigned rows))
    (member (codes "source") (string source) no_members))))

-- what a service is: its source and base, how many orders it has, and how many rows; JSON without
-- white space (RFC 8259), as one line
unfoldable pub service_line : List ℕ → ℕ → ℕ → ℕ → List ℕ
service_line source base orders rows =
    compact_text (service_data source base orders rows) ++ 10 ∷ []

-- {"db":DB,"events":N,"sources":N,"version":V}, which tells of a database's inbox
abbrev pub database_data : List ℕ → ℕ → ℕ → ℕ → Data
database_data db events sources version =
    object (member (codes "db") (string db)
    (member (codes "events") (number (unsigned events))
    (member (codes "sources") (number (unsigned sources))
    (member (codes "version") (number (unsigned version)) no_members))))

-- what the inbox of a database is: its name, how many events it has, of how many sources, and in
-- which version; JSON without white space, as one line
unfoldable pub database_line : List ℕ → ℕ → ℕ → ℕ → List ℕ
database_line db events sources version =
    compact_text (database_data db events sources version) ++ 10 ∷ []
