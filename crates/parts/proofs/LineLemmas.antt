-- The lines of a text, one after the other.
use Rattle.std.proofs.Common.{◌≡◌, ◌≢◌, ◌≤◌, ◌<◌, ◌==◌, ◌+◌, ◌++◌, ℕ, suc, Bool, false, not, cond, List, [], ◌∷◌, flat_map, length, take, drop, slice_get, refl, sym, ap, ap₂, ◌∙◌, subst, arith, append_assoc, append-nil, length-append, Option, Some, None}
use Rattle.std.proofs.lemmas.Bool.Decides.{nat_tests}
use Rattle.std.proofs.lemmas.List.{drop_at, length_push, take_at}
use Rattle.std.specs.List.{AllByRecursion, after_first, before_first, position_or_len, range_with_len}
use Rattle.views.specs.Line.{line}
use Rattle.parts.specs.Lines.{AreJoined, AreLinesOf, IsOneLine}

abbrev pub is_lf : ℕ → Bool
is_lf b = b == 10

other : (b : ℕ) → b ≢ 10 → (b == 10) ≡ false
other b differs = grind (arith, nat_tests)

at_lf : (l more : List ℕ) → IsOneLine l → position_or_len is_lf (l ++ 10 ∷ more) ≡ length l
at_lf [] more p = refl
at_lf (x ∷ l) more p =
    let later = at_lf l more p.1 in
    ap (λ t. cond (not t) (1 + position_or_len is_lf (l ++ 10 ∷ more)) 0) (other x p.0) ∙ omega (arith, later)

before_lf : (l more : List ℕ) → IsOneLine l → before_first is_lf (l ++ 10 ∷ more) ≡ l
before_lf l more p = ap (λ n. take n (l ++ 10 ∷ more)) (at_lf l more p) ∙ take_at l (10 ∷ more) (length l) refl

after_lf : (l more : List ℕ) → IsOneLine l → after_first is_lf (l ++ 10 ∷ more) ≡ more
after_lf l more p =
    ap (λ n. drop (n + 1) (l ++ 10 ∷ more)) (at_lf l more p)
    ∙ ap (drop (length l + 1)) (sym (append_assoc l (10 ∷ []) more)) ∙ drop_at (l ++ 10 ∷ []) more (length l + 1) (length_push l 10)

module _ {X : Type 0} (is_line : X → List ℕ → Type 0) where
  -- what is told of the first line
  pub record IsNext (rows : List X) (first rest : List ℕ) : Type 0 where
    pub row : X
    pub left : List X
    pub all : rows ≡ row ∷ left
    pub own : is_line row first
    pub later : AreLinesOf is_line left rest

  pub next_row : (rows : List X) (text : List ℕ) → AreLinesOf is_line rows text → position_or_len is_lf text < length text
      → IsNext rows (before_first is_lf text) (after_first is_lf text)
  next_row [] text none lt = absurd (let n : length text ≡ 0 = ap length none in omega (arith, n, lt))
  next_row (row ∷ rows) text (l, more, own, plain, is, later) lt = record {
    row = row;
    left = rows;
    all = refl;
    own = subst (is_line row) (sym (ap (before_first is_lf) is ∙ before_lf l more plain)) own;
    later = subst (AreLinesOf is_line rows) (sym (ap (after_first is_lf) is ∙ after_lf l more plain)) later;
  }

  pub no_row : (rows : List X) (text : List ℕ) → AreLinesOf is_line rows text → position_or_len is_lf text ≡ length text → rows ≡ []
  no_row [] text none whole = refl
  no_row (row ∷ rows) text (l, more, own, plain, is, later) whole =
      absurd (let at = ap (position_or_len is_lf) is ∙ at_lf l more plain in
      let n : length text ≡ length (l ++ 10 ∷ more) = ap length is in omega (arith, at, whole, n, length-append l (10 ∷ more)))

  some_is : (x y : X) → Some x ≡ Some y → x ≡ y
  some_is x y h = cc

  -- the first line is read
  pub row_read : (all rows left items : List X) (first rest more : List ℕ) (o : Option X) (row : X) → all ≡ rows ++ left → AreLinesOf is_line left rest
      → position_or_len is_lf rest < length rest → first ≡ before_first is_lf rest → more ≡ after_first is_lf rest
      → ((r : X) → is_line r first → o ≡ Some r) → o ≡ Some row → items ≡ rows ++ row ∷ [] → (now : List X) × (all ≡ items ++ now) × AreLinesOf is_line now more
  row_read all rows left items first rest more o row is are lt front back reads some pushed =
      let next = next_row left rest are lt in
      let same : next.row ≡ row = some_is next.row row (sym (reads next.row (subst (is_line next.row) (sym front) next.own)) ∙ some) in
      let here : next.row ∷ next.left ≡ row ∷ next.left = ap (λ r. r ∷ next.left) same in (
        next.left,
        is ∙ ap (λ l. rows ++ l) (next.all ∙ here) ∙ sym (append_assoc rows (row ∷ []) next.left) ∙ ap (λ l. l ++ next.left) (sym pushed),
        subst (AreLinesOf is_line next.left) (sym back) next.later,
      )

  pub row_missed : (left : List X) (first rest : List ℕ) (o : Option X) → AreLinesOf is_line left rest
      → position_or_len is_lf rest < length rest → first ≡ before_first is_lf rest → ((r : X) → is_line r first → o ≡ Some r) → o ≡ None → ⊥
  row_missed left first rest o are lt front reads none =
      let next = next_row left rest are lt in
      let both : None ≡ Some next.row = sym none ∙ reads next.row (subst (is_line next.row) (sym front) next.own) in cc

  pub all_read : (all rows left : List X) (rest : List ℕ) → all ≡ rows ++ left → AreLinesOf is_line left rest → position_or_len is_lf rest ≡ length rest → rows ≡ all
  all_read all rows left rest is are whole = sym (is ∙ ap (λ l. rows ++ l) (no_row left rest are whole) ∙ append-nil rows)

  -- a line tells its row, so a text its rows
  pub rows_one : ((r s : X) (l : List ℕ) → is_line r l → is_line s l → r ≡ s) → (rows others : List X) (text : List ℕ)
      → AreLinesOf is_line rows text → AreLinesOf is_line others text → rows ≡ others
  rows_one tells [] [] text a b = refl
  rows_one tells [] (s ∷ others) text a (l, more, own, plain, is, later) =
      absurd (let n : length (l ++ 10 ∷ more) ≡ 0 = ap length (sym is ∙ a) in omega (arith, n, length-append l (10 ∷ more)))
  rows_one tells (r ∷ rows) [] text (l, more, own, plain, is, later) b =
      absurd (let n : length (l ++ 10 ∷ more) ≡ 0 = ap length (sym is ∙ b) in omega (arith, n, length-append l (10 ∷ more)))
  rows_one tells (r ∷ rows) (s ∷ others) text (l, more, own, plain, is, later) (m, rest, its, flat, at, after) =
      let both = sym is ∙ at in
      let first : l ≡ m = sym (before_lf l more plain) ∙ ap (before_first is_lf) both ∙ before_lf m rest flat in
      let behind : more ≡ rest = sym (after_lf l more plain) ∙ ap (after_first is_lf) both ∙ after_lf m rest flat in
      ap₂ (λ x xs. x ∷ xs) (tells r s m (subst (is_line r) first own) its)
      (rows_one tells rows others rest (subst (AreLinesOf is_line rows) behind later) after)

-- the lines of rows that each have a text
pub lines_are : {X : Type 0} (P : X → Type 0) (f : X → List ℕ) → ((x : X) → P x → IsOneLine (f x)) → (rows : List X) → AllByRecursion P rows
    → AreLinesOf (λ row l. P row × (l ≡ f row)) rows (flat_map (λ row. line (f row)) rows)
lines_are P f plain [] all = refl
lines_are P f plain (row ∷ rows) all =
    (f row, flat_map (λ r. line (f r)) rows, (all.0, refl), plain row all.0, append_assoc (f row) (10 ∷ []) (flat_map (λ r. line (f r)) rows), lines_are P f plain rows all.1)

pub seen_plain : (bytes : List ℕ) → AllByRecursion (λ b. 32 ≤ b) bytes → IsOneLine bytes
seen_plain [] h = tt
seen_plain (b ∷ bytes) h = ((λ e. omega (arith, h.0, e)), seen_plain bytes h.1)

-- ---- texts one behind the other

module _ {X : Type 0} (Tells : List ℕ → List X → Type 0) where
  pub joined_more : (texts : List (List ℕ)) (all : List X) (t : List ℕ) (rows : List X) → AreJoined Tells texts all → Tells t rows → AreJoined Tells (texts ++ t ∷ []) (all ++ rows)
  joined_more [] all t rows none own = (rows, [], own, refl, ap (λ l. l ++ rows) none ∙ sym (append-nil rows))
  joined_more (s ∷ texts) all t rows (first, rest, its, more, is) own =
      (first, rest ++ rows, its, joined_more texts rest t rows more own, ap (λ l. l ++ rows) is ∙ append_assoc first rest rows)

  pub joined_parts : (f : ℕ → List X) (a : ℕ) (texts : List (List ℕ)) (all : List X) → AreJoined Tells texts all
      → ((i : ℕ) (t : List ℕ) (rows : List X) → slice_get texts i ≡ Some t → Tells t rows → rows ≡ f (a + i)) → all ≡ flat_map f (range_with_len a (length texts))
  joined_parts f a [] all none own = none
  joined_parts f a (t ∷ texts) all (rows, rest, its, more, is) own =
      let first : a + 0 ≡ a = omega arith in
      is ∙ ap₂ (λ x y. x ++ y) (own 0 t rows refl its ∙ ap f first)
      (joined_parts f (a + 1) texts rest more (λ i s r got k. own (suc i) s r got k ∙ (let e : a + suc i ≡ a + 1 + i = omega arith in ap f e)))
