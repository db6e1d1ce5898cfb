-- Numbers that are held in a row.
use Rattle.std.specs.Prelude.{◌≡◌, ℕ, ◌<◌, ◌≤◌, true, false, List}
use Rattle.coverage.specs.Intervals.{Interval, holds}

-- the intervals hold no number from this one on
abbrev pub NoneFrom : List Interval → ℕ → Type 0
NoneFrom ps from = (n : ℕ) → from ≤ n → holds ps n ≡ false

-- a set's intervals hold each number of the interval, and none before it from this one on
pub record IsRunFrom (ps : List Interval) (from : ℕ) (p : Interval) : Type 0 where
  pub later : from ≤ p.0
  pub rises : p.0 ≤ p.1
  pub none_before : (n : ℕ) → from ≤ n → n < p.0 → holds ps n ≡ false
  pub held : (n : ℕ) → p.0 ≤ n → n ≤ p.1 → holds ps n ≡ true
