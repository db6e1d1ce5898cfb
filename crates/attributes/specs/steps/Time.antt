-- What the reader of times goes by.
use Rattle.std.specs.Prelude.{◌≡◌, ◌≤◌, true, ℕ, List, length}
use Rattle.attributes.specs.Time.{are_digits_at}

-- an attribute with the shape of a time is long enough and has these digits
pub record IsShaped (t : List ℕ) : Type 0 where
  pub long : 20 ≤ length t
  pub century : are_digits_at t 0 ≡ true
  pub year : are_digits_at t 2 ≡ true
  pub month : are_digits_at t 5 ≡ true
  pub day : are_digits_at t 8 ≡ true
  pub hour : are_digits_at t 11 ≡ true
  pub minute : are_digits_at t 14 ≡ true
  pub second : are_digits_at t 17 ≡ true
