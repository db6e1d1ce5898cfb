-- A digest is made of bytes.
use Rattle.std.proofs.Common.{ℕ, zero, suc, ◌<◌, ◌%◌, ◌^◌, ◌/◌, List, [], ◌∷◌, arith}
use Rattle.std.specs.Prelude.{slice_index}
use Rattle.std.specs.List.{AllByRecursion}
use Rattle.std.specs.Int.{byte_at, bytes_high_first, to_be_bytes, w32}
use Rattle.hex.specs.Hex.{IsBytes}
use Rattle.inbox.proofs.SetLemmas.{all_append}
use Rattle.sha2.specs.Sha256.{digest_bytes, sha256}

IsByte : ℕ → Type 0
IsByte b = b < 256

one_byte : (i n : ℕ) → IsByte (byte_at i n)
unfolding IsByte
one_byte zero n = omega arith
one_byte (suc i) n = rest_below (n / 256 ^ suc i)
  where
    rest_below : (m : ℕ) → m % 256 < 256
    rest_below m = omega arith

high_bytes : (k n : ℕ) → AllByRecursion IsByte (bytes_high_first k n)
high_bytes zero n = tt
high_bytes (suc k) n = (one_byte k n, high_bytes k n)

all_bytes : (h : List ℕ) (n : ℕ) → AllByRecursion IsByte (digest_bytes h n)
unfolding digest_bytes
all_bytes h zero = tt
all_bytes h (suc n) = all_append IsByte (digest_bytes h n) (to_be_bytes w32 (slice_index h n)) (all_bytes h n) (high_bytes 4 (slice_index h n))

by_place : (xs : List ℕ) → AllByRecursion IsByte xs → IsBytes xs
unfolding IsByte
by_place [] a i = omega arith
by_place (x ∷ xs) a zero = a.0
by_place (x ∷ xs) a (suc i) = by_place xs a.1 i

pub bytes-sha256 : (m : List ℕ) → IsBytes (sha256 m)
unfolding sha256
bytes-sha256 m = by_place (sha256 m) (all_bytes _ 8)
