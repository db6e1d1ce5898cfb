-- What a caller of libjumbetai sees of a site.
use Rattle.std.specs.Prelude.{ℕ, List}
use Rattle.attributes.specs.Event.{EventValue}

-- the events of libjumbetai's site, in the order in which they came, and the text of the last answer
pub record Shown : Type 0 where
  pub site : List EventValue
  pub text : List ℕ
