-- A filter of texts: three bits for each, at places that a hash tells.
use Rattle.std.specs.Prelude.{◌≡◌, ℕ, ◌+◌, ◌*◌, ◌/◌, ◌%◌, ◌^◌, List, bit_xor, fold, length, slice_index_or}
use Rattle.std.specs.Int.{bit_at}

-- the FNV-1a hash, of 64 bits, with one byte more
abbrev pub hash_step : ℕ → ℕ → ℕ
hash_step h b = bit_xor h b * 1099511628211 % 2 ^ 64

-- the FNV-1a hash of a text, of 64 bits
abbrev pub hash_of : List ℕ → ℕ
hash_of t = fold hash_step 14695981039346656037 t

-- the place of one of the bits of a hash in a filter of so many bits: the first is where the hash
-- tells, and how far each is from the one before the rest of the hash tells
abbrev pub place_of : ℕ → ℕ → ℕ → ℕ
place_of bits hash i = (hash % bits + i * (hash / bits % bits)) % bits

-- the bit at a place of a filter's words is set
abbrev pub HasBit : List ℕ → ℕ → Type 0
HasBit words place = bit_at (slice_index_or words (place / 64) 0) (place % 64) ≡ 1

-- one of a hash's bits is set in a filter
abbrev pub HasBitOf : List ℕ → ℕ → ℕ → Type 0
HasBitOf words hash i = HasBit words (place_of (64 * length words) hash i)

-- the filter may have the text: its bits are set, as those of each text that was added
abbrev pub MayHave : List ℕ → List ℕ → Type 0
MayHave words t =
    HasBitOf words (hash_of t) 0 × HasBitOf words (hash_of t) 1 × HasBitOf words (hash_of t) 2

-- each bit of a filter that was set is set
abbrev pub KeepsBits : List ℕ → List ℕ → Type 0
KeepsBits old new = (place : ℕ) → HasBit old place → HasBit new place

-- the filter may have each text that it may have had
abbrev pub KeepsTexts : List ℕ → List ℕ → Type 0
KeepsTexts old new = (t : List ℕ) → MayHave old t → MayHave new t
