-- Pages of a list.
pub use Rattle.paging.specs.Page.{max_page}
use Rattle.std.specs.Prelude.{ℕ, List, drop, take}

-- a page: the items at the places from `from` on, counted from 0, `limit` of them at most
abbrev pub page : {X : Type 0} → List X → ℕ → ℕ → List X
page items from limit = take limit (drop from items)
