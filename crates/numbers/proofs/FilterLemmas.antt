-- Bits of a filter's words.
use Rattle.std.proofs.Common.{◌≡◌, ◌≢◌, ◌⊎◌, inl, inr, ◌*◌, ◌/◌, ◌%◌, ◌^◌, ◌<◌, ℕ, List, length, length-set, set, get_or, get_or-set_same, get_or-set_other, bit_or, w64, true, false, eqb, sym, ap, subst, ◌∙◌, arith}
use Rattle.std.specs.Int.{bit_at}
use Rattle.std.proofs.lemmas.Bool.Decides.{eqb_tells}
use Rattle.std.proofs.lemmas.List.{get_or_default}
use Rattle.std.proofs.lemmas.Nat.{mod_below}
use Rattle.std.proofs.lemmas.Nat.Bits.{bit_at_set_other, bit_at_set_same}
use Rattle.numbers.specs.Filter.{HasBit, HasBitOf, KeepsBits, KeepsTexts, hash_of, place_of}

-- the words with the bit of a place set
abbrev pub with_bit : List ℕ → ℕ → List ℕ
with_bit words p = set words (p / 64) (bit_or (get_or words (p / 64) 0) (1 * 2 ^ (p % 64) % 2 ^ 64))

below : (p : ℕ) → p % 64 < 64
below p = mod_below p 64 (omega arith)

pub bit_here : (words : List ℕ) (p : ℕ) → p / 64 < length words → HasBit (with_bit words p) p
bit_here words p within =
    ap (λ w. bit_at w (p % 64)) (get_or-set_same words (p / 64) (bit_or (get_or words (p / 64) 0) (1 * 2 ^ (p % 64) % 2 ^ 64)) 0 within)
    ∙ bit_at_set_same w64 (get_or words (p / 64) 0) (p % 64) (below p)

pub bit_stays : (words : List ℕ) (p q : ℕ) → p / 64 < length words → HasBit words q → HasBit (with_bit words p) q
bit_stays words p q within has = by_word (eqb_tells (q / 64) (p / 64))
  where
    here : q / 64 ≡ p / 64 → bit_at (bit_or (get_or words (p / 64) 0) (1 * 2 ^ (p % 64) % 2 ^ 64)) (q % 64) ≡ 1
    here same = by_bit (eqb_tells (q % 64) (p % 64))
      where
        was : bit_at (get_or words (p / 64) 0) (q % 64) ≡ 1
        was = ap (λ k. bit_at (get_or words k 0) (q % 64)) (sym same) ∙ has

        by_bit : ((eqb (q % 64) (p % 64) ≡ true) × (q % 64 ≡ p % 64)) ⊎ ((eqb (q % 64) (p % 64) ≡ false) × (q % 64 ≢ p % 64)) → bit_at (bit_or (get_or words (p / 64) 0) (1 * 2 ^ (p % 64) % 2 ^ 64)) (q % 64) ≡ 1
        by_bit (inl (t, is)) = ap (bit_at (bit_or (get_or words (p / 64) 0) (1 * 2 ^ (p % 64) % 2 ^ 64))) is ∙ bit_at_set_same w64 (get_or words (p / 64) 0) (p % 64) (below p)
        by_bit (inr (t, differ)) = bit_at_set_other w64 (get_or words (p / 64) 0) (p % 64) (below p) (q % 64) differ ∙ was

    by_word : ((eqb (q / 64) (p / 64) ≡ true) × (q / 64 ≡ p / 64)) ⊎ ((eqb (q / 64) (p / 64) ≡ false) × (q / 64 ≢ p / 64)) → HasBit (with_bit words p) q
    by_word (inl (t, is)) =
        ap (λ k. bit_at (get_or (with_bit words p) k 0) (q % 64)) is
        ∙ ap (λ w. bit_at w (q % 64)) (get_or-set_same words (p / 64) (bit_or (get_or words (p / 64) 0) (1 * 2 ^ (p % 64) % 2 ^ 64)) 0 within)
        ∙ here is
    by_word (inr (t, differ)) = ap (λ w. bit_at w (q % 64)) (get_or-set_other words (p / 64) (q / 64) (bit_or (get_or words (p / 64) 0) (1 * 2 ^ (p % 64) % 2 ^ 64)) 0 differ) ∙ has

-- one bit of a hash is set, as the code says it
pub bit_set : (words : List ℕ) (hash i n p w : ℕ) → n ≡ length words → p ≡ place_of (64 * n) hash i → p / 64 < n → w ≡ get_or words (p / 64) w → HasBitOf (set words (p / 64) (bit_or w (1 * 2 ^ (p % 64) % 2 ^ 64))) hash i × KeepsBits words (set words (p / 64) (bit_or w (1 * 2 ^ (p % 64) % 2 ^ 64)))
bit_set words hash i n p w long at within read =
    let there : p / 64 < length words = subst (λ k. p / 64 < k) long within in
    let here : get_or words (p / 64) 0 ≡ w = sym (read ∙ get_or_default words (p / 64) w 0 there) in
    let same : p ≡ place_of (64 * length (with_bit words p)) hash i = at ∙ ap (λ k. place_of (64 * k) hash i) (long ∙ sym (length-set words (p / 64) _)) in
    let both : HasBitOf (with_bit words p) hash i × KeepsBits words (with_bit words p) = (subst (HasBit (with_bit words p)) same (bit_here words p there), λ q has. bit_stays words p q there has) in
    subst (λ v. HasBitOf (set words (p / 64) (bit_or v (1 * 2 ^ (p % 64) % 2 ^ 64))) hash i × KeepsBits words (set words (p / 64) (bit_or v (1 * 2 ^ (p % 64) % 2 ^ 64)))) here both

-- a bit of a hash stays set in a filter of as many words
pub bit_kept : (old new : List ℕ) (hash i : ℕ) → length new ≡ length old → KeepsBits old new → HasBitOf old hash i → HasBitOf new hash i
bit_kept old new hash i long keeps has = subst (λ n. HasBit new (place_of (64 * n) hash i)) (sym long) (keeps (place_of (64 * length old) hash i) has)

-- and so does a text
pub text_kept : (old new : List ℕ) → length new ≡ length old → KeepsBits old new → KeepsTexts old new
text_kept old new long keeps t has =
    (bit_kept old new (hash_of t) 0 long keeps has.0, bit_kept old new (hash_of t) 1 long keeps has.1, bit_kept old new (hash_of t) 2 long keeps has.2)
