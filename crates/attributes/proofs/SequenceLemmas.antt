-- Twenty digits that write a number.
use Rattle.std.proofs.Common.{◌≡◌, ◌∙◌, ◌+◌, ◌<◌, ◌≤◌, ◌^◌, ℕ, zero, suc, true, List, [], ◌∷◌, ◌++◌, Some, length, replicate, refl, ap, arith, rules, length-append, decimal}
use Rattle.std.specs.Prelude.{◌==◌, nat_le}
use Rattle.std.specs.Char.{is_ascii_digit}
use Rattle.std.specs.List.{list_all}
use Rattle.std.proofs.lemmas.Bool.Decides.{nat_tests}
use Rattle.std.proofs.lemmas.Str.Parse.{IsNumeralModel, numerals_by_fold}
use Rattle.std.proofs.lemmas.Fmt.{digits_decimal, digits_value-decimal, length-decimal-le}
use Rattle.attributes.specs.Sequence.{read_on, is_sequence, max_sequence, sequence_of}
use Rattle.attributes.proofs.BoolLemmas.{and_parts}

pub own : IsNumeralModel (λ ds. list_all is_ascii_digit ds ≡ true) (read_on 0)
own = numerals_by_fold _ (search rules) read_on (search rules)

abbrev pub zeros : ℕ → List ℕ
zeros k = replicate k 48

zeros_read : (k : ℕ) (ds : List ℕ) → read_on 0 (zeros k ++ ds) ≡ read_on 0 ds
zeros_read zero ds = refl
zeros_read (suc k) ds = zeros_read k ds

zeros_are_digits : (k : ℕ) (ds : List ℕ) → list_all is_ascii_digit (zeros k ++ ds) ≡ list_all is_ascii_digit ds
zeros_are_digits zero ds = refl
zeros_are_digits (suc k) ds = zeros_are_digits k ds

more_zeros : (k : ℕ) → zeros k ++ 48 ∷ [] ≡ zeros (suc k)
more_zeros zero = refl
more_zeros (suc k) = ap (λ (xs : List ℕ). 48 ∷ xs) (more_zeros k)

pub one_more_zero : (k n : ℕ) → n ≡ k + 1 → zeros k ++ 48 ∷ [] ≡ zeros n
one_more_zero k n h = let next : suc k ≡ n = omega (arith, h) in more_zeros k ∙ ap zeros next

length-zeros : (k : ℕ) → length (zeros k) ≡ k
length-zeros zero = refl
length-zeros (suc k) = ap suc (length-zeros k)

pub bounded : (n : ℕ) → is_sequence n ≡ true → n < 2 ^ 63
bounded n h = let both = and_parts (nat_le 1 n) (nat_le n max_sequence) h in let top : nat_le n max_sequence ≡ true = both.1 in grind (arith, nat_tests)

pub short_decimal : (n : ℕ) → n < 2 ^ 63 → length (decimal n) ≤ 19
short_decimal n h = length-decimal-le 19 n (omega arith) (omega arith) (omega arith)

pub sequence_of-padded : (n k : ℕ) → is_sequence n ≡ true → n < 2 ^ 63 → k + length (decimal n) ≡ 20 → sequence_of (zeros k ++ decimal n) ≡ Some n
sequence_of-padded n k h small whole =
    let t = zeros k ++ decimal n in
    let wide : n < 2 ^ 64 = omega arith in
    let long : length t ≡ 20 = length-append (zeros k) (decimal n) ∙ (ap (λ m. m + length (decimal n)) (length-zeros k) ∙ whole) in
    let twenty : (length t == 20) ≡ true = ap (λ m. m == 20) long in
    let are_digits : list_all is_ascii_digit t ≡ true = zeros_are_digits k (decimal n) ∙ digits_decimal own n wide in
    let value : read_on 0 t ≡ n = zeros_read k (decimal n) ∙ digits_value-decimal own n wide in
    rw (twenty, are_digits, value, h) refl
