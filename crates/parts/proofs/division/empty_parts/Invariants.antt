use Rattle.std.proofs.Common.{◌≡◌, ◌<◌, [], ℕ, get_or, vec_len}
use Rattle.parts.proofs.division.empty_parts.Given as goal

abbrev pub invariant-loop-i : goal.invariant-loop-i
invariant-loop-i l = (vec_len l.parts ≡ l.i) × ((k : ℕ) → k < l.i → get_or l.parts.items k [] ≡ [])
