-- The lines of files, one more at a time.
use Rattle.std.proofs.Common.{◌≡◌, ◌==◌, ◌+◌, ℕ, Bool, true, false, cond, List, [], ◌∷◌, length, take, drop, position, Some, None, refl, sym, subst, ◌∙◌, arith}
use Rattle.std.specs.List.{position_from, position_or_len}
use Rattle.std.specs.Prelude.{nat_lt}
use Rattle.std.proofs.lemmas.Bool.Decides.{nat_tests}
use Rattle.std.proofs.lemmas.Iterator.Adapters.{position_from-zero}
use Rattle.std.proofs.lemmas.List.Splits.{slice_split_first}
use Rattle.site_commands.specs.Pieces.{lines_of}

abbrev is_end : ℕ → Bool
is_end b = b == 10

none_from : (k : ℕ) (xs : List ℕ) → position_from is_end k xs ≡ None → lines_of xs ≡ xs ∷ []
none_from k [] none = refl
none_from k (x ∷ xs) none = go (x == 10) refl none (λ h. none_from (k + 1) xs h)
  where
    go : (b : Bool) → (x == 10) ≡ b → cond b (Some k) (position_from is_end (k + 1) xs) ≡ None → (position_from is_end (k + 1) xs ≡ None → lines_of xs ≡ xs ∷ []) → lines_of (x ∷ xs) ≡ (x ∷ xs) ∷ []
    go true is h later = absurd (cc)
    go false is h later = rw (is, later h) refl

-- a text without an LF is one line
pub one_line : (xs : List ℕ) → position is_end xs ≡ None → lines_of xs ≡ xs ∷ []
one_line xs none = none_from 0 xs (sym (position_from-zero is_end xs) ∙ none)

-- what stands before the first LF is a line
pub first_of_lines : (xs : List ℕ) (i : ℕ) → position is_end xs ≡ Some i → lines_of xs ≡ take i xs ∷ lines_of (drop (i + 1) xs)
first_of_lines xs i is = go (nat_lt (position_or_len is_end xs) (length xs)) refl is
  where
    go : (b : Bool) → nat_lt (position_or_len is_end xs) (length xs) ≡ b → cond b (Some (position_or_len is_end xs)) None ≡ Some i → lines_of xs ≡ take i xs ∷ lines_of (drop (i + 1) xs)
    go true at h =
        let same : position_or_len is_end xs ≡ i = cc in
        subst (λ n. lines_of xs ≡ take n xs ∷ lines_of (drop (n + 1) xs)) same
        (slice_split_first is_end xs 0 (grind (arith, nat_tests)))
    go false at h = absurd (cc)
