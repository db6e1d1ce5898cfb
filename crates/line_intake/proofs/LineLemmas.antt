-- How a line is taken from an input, part by part.
use Rattle.std.proofs.Common.{◌≡◌, ◌≢◌, ◌==◌, ◌≤◌, inl, inr, ◌++◌, ℕ, zero, suc, ◌+◌, Bool, true, false, cond, List, [], ◌∷◌, length, take, drop, position, Some, None, Option, refl, sym, ap, subst, ◌∙◌, arith, add-one, append_assoc}
use Rattle.std.specs.List.{position_from}
use Rattle.std.specs.Io.KnownBytes.{Consumes, IsAtEnd, prepend_known}
use Rattle.std.proofs.KnownBytes.{Consumes-trans}
use Rattle.std.proofs.lemmas.Iterator.Adapters.{position_from-zero}
use Rattle.std.proofs.lemmas.Bool.Decides.{nat_tests}
use Rattle.event_json.specs.Reading.{max_input}
use Rattle.line_intake.specs.Lines.{IsNext, IsPartOf, HasNoLineFeed, TakesLine, ended_of, last_of}

abbrev is_end : ℕ → Bool
is_end b = b == 10

other : (b : ℕ) → (b == 10) ≡ false → b ≢ 10
other b differs is = grind (arith, nat_tests)

this : (b : ℕ) → (b == 10) ≡ true → b ≡ 10
this b equals = grind (arith, nat_tests)

none_from : (k : ℕ) (xs : List ℕ) → position_from is_end k xs ≡ None → HasNoLineFeed xs
none_from k [] none = tt
none_from k (x ∷ xs) none = go (x == 10) refl none (λ h. none_from (k + 1) xs h)
  where
    go : (b : Bool) → (x == 10) ≡ b → cond b (Some k) (position_from is_end (k + 1) xs) ≡ None → (position_from is_end (k + 1) xs ≡ None → HasNoLineFeed xs) → HasNoLineFeed (x ∷ xs)
    go true is h later = absurd (cc)
    go false is h later = (other x is, later h)

-- there is no LF
pub none_plain : (xs : List ℕ) → position is_end xs ≡ None → HasNoLineFeed xs
none_plain xs none = none_from 0 xs (sym (position_from-zero is_end xs) ∙ none)

-- so many bytes stand before an LF, and none of them is one
pub record IsFirst (xs : List ℕ) (j : ℕ) : Type 0 where
  pub plain : HasNoLineFeed (take j xs)
  pub split : xs ≡ take j xs ++ 10 ∷ drop (suc j) xs

value_of : (a b : ℕ) → ◌≡◌ {A = Option ℕ} (Some a) (Some b) → b ≡ a
value_of a b e = cc

first_from : (k i : ℕ) (xs : List ℕ) → position_from is_end k xs ≡ Some i → (j : ℕ) × (i ≡ k + j) × IsFirst xs j
first_from k i [] is = absurd (cc)
first_from k i (x ∷ xs) is = go (x == 10) refl is (λ h. first_from (k + 1) i xs h)
  where
    go : (b : Bool) → (x == 10) ≡ b → cond b (Some k) (position_from is_end (k + 1) xs) ≡ Some i → (position_from is_end (k + 1) xs ≡ Some i → (j : ℕ) × (i ≡ k + 1 + j) × IsFirst xs j) → (j : ℕ) × (i ≡ k + j) × IsFirst (x ∷ xs) j
    go true at h later = (zero, (let e : i ≡ k + 0 = omega (arith, value_of k i h) in e), record { plain = tt; split = ap (λ b. b ∷ xs) (this x at) })
    go false at h later =
        let found = later h in (
          suc found.0,
          (let e : i ≡ k + suc found.0 = omega (arith, found.1) in e),
          record { plain = (other x at, found.2.plain); split = ap (λ l. x ∷ l) found.2.split },
        )

pub first_is : (xs : List ℕ) (i : ℕ) → position is_end xs ≡ Some i → IsFirst xs i
first_is xs i is =
    let found = first_from 0 i xs (sym (position_from-zero is_end xs) ∙ is) in
    subst (IsFirst xs) (let e : found.0 ≡ i = omega (arith, found.1) in e) found.2

plain_both : (xs ys : List ℕ) → HasNoLineFeed xs → HasNoLineFeed ys → HasNoLineFeed (xs ++ ys)
plain_both [] ys p q = q
plain_both (x ∷ xs) ys p q = (p.0, plain_both xs ys p.1 q)

consumes_front : (front rest : List ℕ) (r : Option (List ℕ)) → Consumes (prepend_known (front ++ rest) r) (prepend_known rest r) front
consumes_front front rest None = tt
consumes_front front rest (Some xs) = append_assoc front rest xs

-- a line comes to its LF
line_done : (a b c : Option (List ℕ)) (bs part line : List ℕ) (long : Bool) → HasNoLineFeed bs → HasNoLineFeed part → Consumes a b bs → Consumes b c (part ++ 10 ∷ []) → IsPartOf line long (bs ++ part) → IsNext a c (ended_of line long)
line_done a b c bs part line long p q first more held =
    let taken : TakesLine a c (bs ++ part) = record {
      plain = plain_both bs part p q;
      taken = inl (subst (Consumes a c) (sym (append_assoc bs part (10 ∷ []))) (Consumes-trans a b c bs (part ++ 10 ∷ []) first more));
    } in
    go long held taken
  where
    go : (l : Bool) → IsPartOf line l (bs ++ part) → TakesLine a c (bs ++ part) → IsNext a c (ended_of line l)
    go false h t = (subst (TakesLine a c) (sym h.0) t, subst (λ l. length l ≤ max_input) (sym h.0) h.1)
    go true h t = (bs ++ part, t, h)

pub line_taken : (a r : Option (List ℕ)) (bs pending line rest : List ℕ) (i : ℕ) (long : Bool) → HasNoLineFeed bs → Consumes a (prepend_known pending r) bs → position is_end pending ≡ Some i → IsPartOf line long (bs ++ take i pending) → rest ≡ drop (i + 1) pending
    → IsNext a (prepend_known rest r) (ended_of line long)
line_taken a r bs pending line rest i long p first at held is =
    let found = first_is pending i at in
    let behind : rest ≡ drop (suc i) pending = is ∙ ap (λ n. drop n pending) (add-one i) in
    let all : (take i pending ++ 10 ∷ []) ++ rest ≡ pending = append_assoc (take i pending) (10 ∷ []) rest ∙ ap (λ l. take i pending ++ 10 ∷ l) behind ∙ sym found.split in
    line_done a (prepend_known pending r) (prepend_known rest r) bs (take i pending) line long p found.plain first
    (subst (λ l. Consumes (prepend_known l r) (prepend_known rest r) (take i pending ++ 10 ∷ [])) all (consumes_front (take i pending ++ 10 ∷ []) rest r)) held

-- the input ends, with or without a line
pub last_taken : (a b c : Option (List ℕ)) (bs part line : List ℕ) (long : Bool) → HasNoLineFeed bs → HasNoLineFeed part → Consumes a b bs → Consumes b c part → IsAtEnd c → IsPartOf line long (bs ++ part) → IsNext a c (last_of line long)
last_taken a b c bs part line long p q first more end held = go long line held
  where
    plain : HasNoLineFeed (bs ++ part)
    plain = plain_both bs part p q

    both : Consumes a c (bs ++ part)
    both = Consumes-trans a b c bs part first more

    go : (l : Bool) (it : List ℕ) → IsPartOf it l (bs ++ part) → IsNext a c (last_of it l)
    go true it h = (bs ++ part, record { plain = plain; taken = inr (both, end, λ e. let n = ap length e in omega (arith, n, h)) }, h)
    go false [] h = (subst (Consumes a c) (sym h.0) both, end)
    go false (x ∷ it) h = (
      subst (TakesLine a c) (sym h.0) (record { plain = plain; taken = inr (both, end, λ e. let n : x ∷ it ≡ [] = h.0 ∙ e in cc) }),
      subst (λ l. length l ≤ max_input) (sym h.0) h.1,
    )

-- so many bytes were taken of a line that goes on
pub record IsWithin (a b : Option (List ℕ)) (held : List ℕ) (long : Bool) : Type 0 where
  pub bytes : List ℕ
  pub part : IsPartOf held long bytes
  pub plain : HasNoLineFeed bytes
  pub taken : Consumes a b bytes

pub within_start : (a : Option (List ℕ)) → Consumes a a [] → IsWithin a a [] false
within_start a same = record { bytes = []; part = (refl, omega arith); plain = tt; taken = same }

pub within_more : (a b c : Option (List ℕ)) (held more pending : List ℕ) (long now_long : Bool) → (w : IsWithin a b held long) → ((bs : List ℕ) → IsPartOf held long bs → IsPartOf more now_long (bs ++ pending)) → HasNoLineFeed pending → Consumes b c pending → IsWithin a c more now_long
within_more a b c held more pending long now_long w gains plain taken = record {
  bytes = w.bytes ++ pending;
  part = gains w.bytes w.part;
  plain = plain_both w.bytes pending w.plain plain;
  taken = Consumes-trans a b c w.bytes pending w.taken taken;
}
