-- Lists of entries: whose they are, what they begin with, and what they leave.
use Rattle.std.proofs.Common.{◌≡◌, ◌≢◌, ℕ, suc, ◌+◌, ◌≤◌, Bool, true, false, ◌&&◌, eqb, cond, List, [], ◌∷◌, ◌++◌, length, sym, refl, ap, ◌∙◌, subst, ◌⊎◌, inl, inr, ⊎_elim, arith, length-append, append_assoc}
use Rattle.std.proofs.lemmas.Bool.{eqb-true, eq-eqb}
use Rattle.std.proofs.lemmas.List.{append-nil}
use mathlib.Core.Option.{some}
use lib.ListN.{get_elem?}
use Rattle.atomic_table.proofs.Lists.{at_longer}
use Rattle.turn_lock.specs.declared.machine.Entry.{Entry}
use Rattle.turn_lock.specs.History.{same_number, made_by, StartsWith, entry, after, IsLegal}

both_true : (a b : Bool) → (a && b) ≡ true → (a ≡ true) × (b ≡ true)
both_true true true e = (refl, refl)
both_true true false e = absurd (cc)
both_true false b e = absurd (cc)

pub same_true : (a b : List ℕ) → same_number a b ≡ true → a ≡ b
same_true [] [] e = refl
same_true [] (y ∷ ys) e = absurd (cc)
same_true (x ∷ xs) [] e = absurd (cc)
same_true (x ∷ xs) (y ∷ ys) e = let p = both_true (eqb x y) (same_number xs ys) e in let h : x ≡ y = eqb-true x y p.0 in let t : xs ≡ ys = same_true xs ys p.1 in cc

pub same_refl : (a : List ℕ) → same_number a a ≡ true
same_refl [] = refl
same_refl (x ∷ xs) = let h : eqb x x ≡ true = eq-eqb x x refl in rw (h, same_refl xs) refl

module _ {C : Type 0} where
  split_at : (b : Bool) (x : Entry C) (l r : List (Entry C)) → cond b (x ∷ (l ++ r)) (l ++ r) ≡ cond b (x ∷ l) l ++ r
  split_at true x l r = refl
  split_at false x l r = refl

  pub made_by-append : (n : List ℕ) (xs ys : List (Entry C)) → made_by n (xs ++ ys) ≡ made_by n xs ++ made_by n ys
  made_by-append n [] ys = refl
  made_by-append n (e ∷ es) ys = ap (λ (l : List (Entry C)). cond (same_number e.number n) (e ∷ l) l) (made_by-append n es ys) ∙ split_at (same_number e.number n) e (made_by n es) (made_by n ys)

  pub made_by-one : (n : List ℕ) (c : C) → made_by n (entry n c ∷ []) ≡ entry n c ∷ []
  made_by-one n c = ap (λ (b : Bool). cond b (entry n c ∷ []) []) (same_refl n)

  none_if : (n : List ℕ) (e : Entry C) (l : List (Entry C)) (b : Bool) → same_number e.number n ≡ b → (e.number ≢ n) → l ≡ [] → cond b (e ∷ l) l ≡ []
  none_if n e l true is ne nil = absurd (ne (same_true e.number n is))
  none_if n e l false is ne nil = nil

  pub made_by-none : (n : List ℕ) (es : List (Entry C)) → ((x : ℕ) (e : Entry C) → get_elem? es x ≡ some e → e.number ≢ n) → made_by n es ≡ []
  made_by-none n [] h = refl
  made_by-none n (e ∷ es) h = none_if n e (made_by n es) (same_number e.number n) refl (h 0 e refl) (made_by-none n es (λ x d at. h (suc x) d at))

  pub made_by-other : (n m : List ℕ) (c : C) → (m ≢ n) → made_by n (entry m c ∷ []) ≡ []
  made_by-other n m c ne = none_if n (entry m c) [] (same_number m n) refl ne refl

  pub starts_same : (log : List (Entry C)) → StartsWith log log
  starts_same log = ([], sym (append-nil log))

  pub starts_longer : (log seen es : List (Entry C)) → StartsWith log seen → StartsWith (log ++ es) seen
  starts_longer log seen es p = (p.0 ++ es, ap (λ l. l ++ es) p.1 ∙ append_assoc seen p.0 es)

  whole : (seen others log : List (Entry C)) → log ≡ seen ++ others → length log ≤ length seen → seen ≡ log
  whole seen [] log e short = sym (e ∙ append-nil seen)
  whole seen (x ∷ xs) log e short = let h : length log ≡ length seen + suc (length xs) = ap length e ∙ length-append seen (x ∷ xs) in absurd (omega arith)

  pub starts_whole : (log seen : List (Entry C)) → StartsWith log seen → length log ≤ length seen → seen ≡ log
  starts_whole log seen p short = whole seen p.0 log p.1 short

  -- of two beginnings of one list the shorter begins the longer
  pub starts_shorter : (log a b : List (Entry C)) → StartsWith log a → StartsWith log b → length a ≤ length b → StartsWith b a
  starts_shorter log [] b p q short = (b, refl)
  starts_shorter log (x ∷ xs) [] p q short = absurd (omega arith)
  starts_shorter log (x ∷ xs) (y ∷ ys) p q short =
      let same : x ∷ (xs ++ p.0) ≡ y ∷ (ys ++ q.0) = sym p.1 ∙ q.1 in let h : x ≡ y = cc in let t : xs ++ p.0 ≡ ys ++ q.0 = cc in
      let rest = starts_shorter (ys ++ q.0) xs ys (p.0, sym t) (q.0, refl) (omega arith) in (rest.0, λ i. sym h i ∷ rest.1 i)

  left_nil : (xs ys : List (Entry C)) → xs ++ ys ≡ [] → xs ≡ []
  left_nil [] ys e = refl
  left_nil (x ∷ xs) ys e = absurd (cc)

  pub nothing : (xs ys : List (Entry C)) → xs ++ ys ≡ xs → ys ≡ []
  nothing xs [] e = refl
  nothing xs (y ∷ ys) e = let h : length xs + suc (length ys) ≡ length xs = sym (length-append xs (y ∷ ys)) ∙ ap length e in absurd (omega arith)

  -- a list between two that have the same entries of n has them too
  pub between : (n : List ℕ) (log b a : List (Entry C)) → StartsWith log b → StartsWith b a → made_by n log ≡ made_by n a → made_by n b ≡ made_by n a
  between n log b a p q same =
      let whole_is : made_by n log ≡ made_by n a ++ (made_by n q.0 ++ made_by n p.0) =
      ap (made_by n) p.1 ∙ (made_by-append n b p.0 ∙ (ap (λ l. made_by n l ++ made_by n p.0) q.1 ∙ (ap (λ l. l ++ made_by n p.0) (made_by-append n a q.0) ∙ append_assoc (made_by n a) (made_by n q.0) (made_by n p.0)))) in
      let none : made_by n q.0 ++ made_by n p.0 ≡ [] = nothing (made_by n a) (made_by n q.0 ++ made_by n p.0) (sym whole_is ∙ same) in
      let first : made_by n q.0 ≡ [] = left_nil (made_by n q.0) (made_by n p.0) none in
      ap (made_by n) q.1 ∙ (made_by-append n a q.0 ∙ (ap (λ l. made_by n a ++ l) first ∙ append-nil (made_by n a)))

  pub at_prefix : (log seen : List (Entry C)) (x : ℕ) (e : Entry C) → StartsWith log seen → get_elem? seen x ≡ some e → get_elem? log x ≡ some e
  at_prefix log seen x e p at = ap (λ l. get_elem? l x) p.1 ∙ at_longer seen p.0 x e at

module _ {A C : Type 0} (next : A → C → A) (fits : A → C → Type 0) where
  pub legal-append : (a : A) (xs ys : List (Entry C)) → IsLegal next fits a xs → IsLegal next fits (after next a xs) ys → IsLegal next fits a (xs ++ ys)
  legal-append a [] ys p q = q
  legal-append a (e ∷ es) ys p q = (p.0, legal-append (next a e.call) es ys p.1 q)

  pub legal_front : (a : A) (xs ys : List (Entry C)) → IsLegal next fits a (xs ++ ys) → IsLegal next fits a xs
  legal_front a [] ys p = tt
  legal_front a (e ∷ es) ys p = (p.0, legal_front (next a e.call) es ys p.1)

  pub legal_prefix : (a : A) (log seen : List (Entry C)) → StartsWith log seen → IsLegal next fits a log → IsLegal next fits a seen
  legal_prefix a log seen p l = legal_front a seen p.0 (subst (IsLegal next fits a) p.1 l)

pub nil_not : (ys : List ℕ) (k : ℕ) (more : List ℕ) → [] ≡ ys ++ k ∷ more → ⊥
nil_not [] k more e = cc
nil_not (y ∷ ys) k more e = cc

-- a number that goes on by one from n, and goes on from m
pub snoc_split : (n m : List ℕ) (s k : ℕ) (more : List ℕ) → n ++ s ∷ [] ≡ m ++ k ∷ more → ((n ≡ m) × (s ≡ k)) ⊎ ((others : List ℕ) × (n ≡ m ++ k ∷ others))
snoc_split [] [] s k more e = let h : s ≡ k = cc in inl (refl, h)
snoc_split [] (y ∷ ys) s k more e = let h : [] ≡ ys ++ k ∷ more = cc in absurd (nil_not ys k more h)
snoc_split (x ∷ xs) [] s k more e = let h : x ≡ k = cc in inr (xs, λ i. h i ∷ xs)
snoc_split (x ∷ xs) (y ∷ ys) s k more e = let h : x ≡ y = cc in let t : xs ++ s ∷ [] ≡ ys ++ k ∷ more = cc in
    ⊎_elim (λ (p : (xs ≡ ys) × (s ≡ k)). inl ((λ i. h i ∷ p.0 i), p.1)) (λ (p : (others : List ℕ) × (xs ≡ ys ++ k ∷ others)). inr (p.0, λ i. h i ∷ p.1 i)) (snoc_split xs ys s k more t)

pub after-append : {A C : Type 0} (next : A → C → A) (a : A) (xs ys : List (Entry C)) → after next a (xs ++ ys) ≡ after next (after next a xs) ys
after-append next a [] ys = refl
after-append next a (e ∷ es) ys = after-append next (next a e.call) es ys
