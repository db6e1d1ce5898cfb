-- A compact text has no byte below a space.
use Rattle.std.proofs.Common.{◌≡◌, ◌≤◌, ◌+◌, ◌/◌, ◌%◌, ℕ, suc, pos, negsuc, Bool, true, false, ◌||◌, List, [], ◌∷◌, ◌++◌, decimal, refl, arith, cond}
use Rattle.std.specs.Prelude.{◌==◌, nat_lt}
use Rattle.std.specs.Char.{digit_char, is_ascii_digit}
use Rattle.std.specs.List.{All, AllByRecursion, list_all}
use Rattle.std.proofs.lemmas.Bool.Decides.{nat_tests}
use Rattle.std.proofs.lemmas.Fmt.{digits_decimal}
use Rattle.std.proofs.lemmas.List.Elements.{All-from_recursion}
use Rattle.json.specs.Print.{escape, escape_byte, escape_letter, quoted}
use Rattle.serde_json.specs.Data.{Num, unsigned, negative, float, Data, null, boolean, number, string, array, object, Items, no_items, item, Members, no_members, member}
use Rattle.serde_json.specs.Written.{comma_if, compact_text, items_text, members_text, number_text}
use Rattle.attributes.specs.Event.{EventValue, members_of, text}
use Rattle.attributes.specs.Exact.{IsExact, IsWholeNumber, ItemsAreExact, MembersAreExact}
use Rattle.attributes.specs.Fault.{IsEvent}
use Rattle.attributes.proofs.SequenceLemmas.{own}
use Rattle.attributes.proofs.BoolLemmas.{and_parts}
use Rattle.attributes.proofs.LawLemmas.{exact_event}

abbrev IsLine : List ℕ → Type 0
IsLine t = AllByRecursion (λ b. 32 ≤ b) t

then_line : (xs ys : List ℕ) → IsLine xs → IsLine ys → IsLine (xs ++ ys)
then_line [] ys h k = k
then_line (x ∷ xs) ys h k = (h.0, then_line xs ys h.1 k)

-- ---- numbers

digit : (d : ℕ) → is_ascii_digit d ≡ true → 32 ≤ d
digit d h = grind (arith, nat_tests)

digits : (ds : List ℕ) → list_all is_ascii_digit ds ≡ true → IsLine ds
digits [] h = tt
digits (d ∷ ds) h = let both = and_parts (is_ascii_digit d) (list_all is_ascii_digit ds) h in (digit d both.0, digits ds both.1)

whole : (n : Num) → IsWholeNumber n → IsLine (number_text n)
whole (unsigned n) h = digits (decimal n) (digits_decimal own n h)
whole (negative (pos n)) h = absurd h
whole (negative (negsuc n)) h = (omega arith, digits (decimal (suc n)) (digits_decimal own (suc n) (omega (arith, h))))
whole (float x) h = absurd h

-- ---- strings

glyph : (d : ℕ) → 32 ≤ digit_char d
glyph d = elim (nat_lt d 10) as (λ b. 32 ≤ cond b (48 + d) (87 + d)) [ true ↦ omega arith | false ↦ omega arith ]

either : (b : Bool) (xs ys : List ℕ) → (b ≡ true → IsLine xs) → (b ≡ false → IsLine ys) → IsLine (cond b xs ys)
either true xs ys h k = h refl
either false xs ys h k = k refl

letter : (a b c d e f : Bool) (x : ℕ) → (a ≡ true → 32 ≤ x) → nat_lt 0 (cond a x (cond b 98 (cond c 102 (cond d 110 (cond e 114 (cond f 116 0)))))) ≡ true → 32 ≤ cond a x (cond b 98 (cond c 102 (cond d 110 (cond e 114 (cond f 116 0)))))
letter true b c d e f x h k = h refl
letter false true c d e f x h k = omega arith
letter false false true d e f x h k = omega arith
letter false false false true e f x h k = omega arith
letter false false false false true f x h k = omega arith
letter false false false false false true x h k = omega arith
letter false false false false false false x h k = cc

escaped : (x : ℕ) → IsLine (escape_byte x)
unfolding escape_byte
escaped x =
    either (nat_lt 0 (escape_letter x)) (92 ∷ escape_letter x ∷ []) _
    (λ h.
    let short : 32 ≤ escape_letter x = letter ((x == 34) || (x == 92)) (x == 8) (x == 12) (x == 10) (x == 13) (x == 9) x (λ m. grind (arith, nat_tests)) h in
    (omega arith, (short, tt)))
    (λ _. either (nat_lt x 32) (92 ∷ 117 ∷ 48 ∷ 48 ∷ digit_char (x / 16) ∷ digit_char (x % 16) ∷ []) (x ∷ [])
    (λ _. (omega arith, (omega arith, (omega arith, (omega arith, (glyph (x / 16), (glyph (x % 16), tt)))))))
    (λ h. (let above : 32 ≤ x = grind (arith, nat_tests) in above, tt)))

escaped_all : (s : List ℕ) → IsLine (escape s)
escaped_all [] = tt
escaped_all (b ∷ s) = then_line (escape_byte b) (escape s) (escaped b) (escaped_all s)

mark : IsLine (34 ∷ [])
mark = (omega arith, tt)

between_marks : (s : List ℕ) → IsLine (quoted s)
between_marks s = (omega arith, then_line (escape s) (34 ∷ []) (escaped_all s) mark)

-- ---- values

comma : (later : Bool) → IsLine (comma_if later)
comma true = (omega arith, tt)
comma false = tt

word : (b : Bool) → IsLine (compact_text (boolean b))
word true = (omega arith, (omega arith, (omega arith, (omega arith, tt))))
word false = (omega arith, (omega arith, (omega arith, (omega arith, (omega arith, tt)))))

mutual
  pub line : (d : Data) → IsExact d → IsLine (compact_text d)
  line null h = (omega arith, (omega arith, (omega arith, (omega arith, tt))))
  line (boolean b) h = word b
  line (number n) h = whole n h
  line (string s) h = between_marks s
  line (array ds) h = (omega arith, items_line false ds h)
  line (object ms) h = (omega arith, members_line false ms h.1)

  items_line : (later : Bool) (ds : Items) → ItemsAreExact ds → IsLine (items_text later ds)
  items_line later no_items h = (omega arith, tt)
  items_line later (item d ds) h =
      then_line (comma_if later) (compact_text d ++ items_text true ds) (comma later)
      (then_line (compact_text d) (items_text true ds) (line d h.0) (items_line true ds h.1))

  members_line : (later : Bool) (ms : Members) → MembersAreExact ms → IsLine (members_text later ms)
  members_line later no_members h = (omega arith, tt)
  members_line later (member k d ms) h =
      then_line (comma_if later) (quoted k ++ 58 ∷ (compact_text d ++ members_text true ms)) (comma later)
      (then_line (quoted k) (58 ∷ (compact_text d ++ members_text true ms)) (between_marks k)
      (omega arith, then_line (compact_text d) (members_text true ms) (line d h.0) (members_line true ms h.1)))

pub text_line : (e : EventValue) → IsEvent e → All (λ b. 32 ≤ b) (text e)
text_line e h = All-from_recursion (λ b. 32 ≤ b) (text e) (line (object (members_of e)) (exact_event e h))
