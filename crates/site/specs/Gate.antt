-- What a gate let a worker do.
use Rattle.std.specs.Prelude.{◌+◌, ◌<◌, ◌≤◌, ℕ}

-- the gate let this worker make so many calls behind the first ones, and was told of each
abbrev pub LetsThrough : (ℕ → ℕ → Type 0) → (ℕ → ℕ → Type 0) → ℕ → ℕ → ℕ → Type 0
LetsThrough lets heard worker first count =
    (k : ℕ) → first < k → k ≤ first + count → lets worker k × heard worker k
