use Rattle.std.proofs.Common.{◌≡◌, ◌<◌, ◌^◌, ◌∙◌, ℕ, Bool, true, false, List, length, rules, arith, sym, ap, subst, refl}
use Rattle.std.specs.Prelude.{Option, Some, None, Result, Ok, Err, if◌then◌else◌, ◌==◌}
use Rattle.std.specs.Char.{is_ascii_digit}
use Rattle.std.specs.List.{list_all}
use Rattle.std.specs.Result.{OkIff}
use Rattle.std.proofs.lemmas.Bool.Decides.{nat_tests}
use Rattle.std.proofs.lemmas.Str.Parse.{IsNumeralModel, numerals_by_fold, parse_digits}
use Rattle.attributes.specs.Sequence.{read_on, is_sequence, sequence_of}
use Rattle.attributes.proofs.sequence.Sequence.of_text.Goals as goal

own : IsNumeralModel (λ ds. list_all is_ascii_digit ds ≡ true) (read_on 0)
own = numerals_by_fold _ (search rules) read_on (search rules)

-- what is answered for twenty digits
in_range_of : (t : List ℕ) → length t ≡ 20 → list_all is_ascii_digit t ≡ true → (if is_sequence (read_on 0 t) then Some (read_on 0 t) else None) ≡ sequence_of t
in_range_of t n d = let twenty : (length t == 20) ≡ true = grind (arith, nat_tests) in rw (twenty, d) refl

-- a number that 64 bits don't hold is no sequence
too_large : (t : List ℕ) → (read_on 0 t < 2 ^ 64 → ⊥) → is_sequence (read_on 0 t) ≡ false
too_large t h = grind (arith, nat_tests)

digits_of : (r b : Bool) → r ≡ true → r ≡ b → b ≡ true
digits_of r b h e = sym e ∙ h

-- what a number that was parsed gives
parsed : {E : Type 0} → (t : List ℕ) (r : Result ℕ E) (n : ℕ) (o : Option ℕ) → length t ≡ 20 → list_all is_ascii_digit t ≡ true → r ≡ Ok n → OkIff r ((0 < length t) × (read_on 0 t < 2 ^ 64)) (read_on 0 t) → o ≡ (if is_sequence n then Some n else None) → o ≡ sequence_of t
parsed t r n o twenty d e is given =
    let same : n ≡ read_on 0 t = (subst (λ q. OkIff q ((0 < length t) × (read_on 0 t < 2 ^ 64)) (read_on 0 t)) e is).1 in
    given ∙ (ap (λ (m : ℕ). if is_sequence m then Some m else None) same ∙ in_range_of t twenty d)

-- what no number gives
unparsed : {E : Type 0} → (t : List ℕ) (r : Result ℕ E) (e : E) → length t ≡ 20 → list_all is_ascii_digit t ≡ true → r ≡ Err e → OkIff r ((0 < length t) × (read_on 0 t < 2 ^ 64)) (read_on 0 t) → None ≡ sequence_of t
unparsed t r e twenty d is iff =
    let no : ((0 < length t) × (read_on 0 t < 2 ^ 64)) → ⊥ = subst (λ q. OkIff q ((0 < length t) × (read_on 0 t < 2 ^ 64)) (read_on 0 t)) is iff in
    let out : is_sequence (read_on 0 t) ≡ false = too_large t (λ fits. no (omega arith, fits)) in
    ap (λ (b : Bool). if b then Some (read_on 0 t) else None) (sym out) ∙ in_range_of t twenty d

pub returns-in-Ok : goal.returns-in-Ok
returns-in-Ok c =
    let t = c.args.text.now in
    let d : list_all is_ascii_digit t ≡ true = digits_of _ _ c.if-not-are_digits.false c.are_digits.ensures in
    parsed t _ c.in-Ok.number _ (omega arith) d c.in-Ok.is (parse_digits own 64 t c.parse.result c.parse.ensures.value.0 d) c.of_u64.ensures

pub returns-in-Err : goal.returns-in-Err
returns-in-Err c =
    let t = c.args.text.now in
    let d : list_all is_ascii_digit t ≡ true = digits_of _ _ c.if-not-are_digits.false c.are_digits.ensures in
    unparsed t _ _ (omega arith) d c.in-Err.is (parse_digits own 64 t c.parse.result c.parse.ensures.value.0 d)
