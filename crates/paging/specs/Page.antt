-- How long a page is.
use Rattle.std.specs.Prelude.{ℕ}

-- the most events of a page, and the most rows of one
abbrev pub max_page : ℕ
max_page = 100
