-- What is added of items that stand once each.
use Rattle.std.proofs.Common.{◌≡◌, ◌+◌, ◌≤◌, suc, List, [], ◌∷◌, ◌++◌, Bool, true, false, length, if◌then◌else◌, refl, sym, ap, ◌∙◌, append_assoc, append-nil, arith, length-append}
use Rattle.std.specs.declared.cmp.Ordering.{Ordering}
use Rattle.inbox.specs.Ordered.{append_new, has}

module _ {K : Type 0} (R : K → K → Ordering) where
  append_new-append : (A xs ys : List K) → append_new R A (xs ++ ys) ≡ append_new R (append_new R A xs) ys
  append_new-append A [] ys = refl
  append_new-append A (x ∷ xs) ys = append_new-append (if has R A x then A else A ++ x ∷ []) xs ys

  most : (A xs : List K) → length (append_new R A xs) ≤ length A + length xs
  most A [] = omega arith
  most A (x ∷ xs) =
      elim (has R A x) as (λ b. length (append_new R (if b then A else A ++ x ∷ []) xs) ≤ length A + suc (length xs)) [
        | true ↦ (let h = most A xs in omega (arith, h))
        | false ↦ (let h = most (A ++ x ∷ []) xs in omega (arith, h, length-append A (x ∷ [])))
      ]

  -- where as many came as there are, each came
  all_came : (A xs : List K) → length A + length xs ≤ length (append_new R A xs) → append_new R A xs ≡ A ++ xs
  all_came A [] h = sym (append-nil A)
  all_came A (x ∷ xs) h =
      (elim (has R A x) as (λ b. length A + suc (length xs) ≤ length (append_new R (if b then A else A ++ x ∷ []) xs) → append_new R (if b then A else A ++ x ∷ []) xs ≡ A ++ x ∷ xs) [
        | true ↦ (λ k. let few = most A xs in absurd (omega (arith, k, few)))
        | false ↦ (λ k. all_came (A ++ x ∷ []) xs (omega (arith, k, length-append A (x ∷ []))) ∙ append_assoc A (x ∷ []) xs)
      ]) h

  -- the first of items that stand once each do so too
  once_front : (xs ys : List K) → append_new R [] (xs ++ ys) ≡ xs ++ ys → append_new R [] xs ≡ xs
  once_front xs ys once =
      let front : List K = append_new R [] xs in
      let all = ap (λ (z : List K). length z) (sym (append_new-append [] xs ys) ∙ once) in
      all_came [] xs (omega (arith, all, most front ys, length-append xs ys))

  -- of items that stand once each, those behind the first ones are all new to them
  pub all_new : (k l r : List K) → append_new R [] (k ++ (l ++ r)) ≡ k ++ (l ++ r) → append_new R k l ≡ k ++ l
  all_new k l r once =
      let two : append_new R [] (k ++ l) ≡ k ++ l = once_front (k ++ l) r (ap (append_new R []) (append_assoc k l r) ∙ (once ∙ sym (append_assoc k l r))) in
      sym (append_new-append [] k l ∙ ap (λ (z : List K). append_new R z l) (once_front k l two)) ∙ two

  one_more : (b : Bool) (A : List K) (x : K) → (more : List K) × ((if b then A else A ++ x ∷ []) ≡ A ++ more)
  one_more true A x = ([], sym (append-nil A))
  one_more false A x = (x ∷ [], refl)

  pub grows : (A xs : List K) → (more : List K) × (append_new R A xs ≡ A ++ more)
  grows A [] = ([], sym (append-nil A))
  grows A (x ∷ xs) = let p = one_more (has R A x) A x in let q = grows (if has R A x then A else A ++ x ∷ []) xs in
      (p.0 ++ q.0, q.1 ∙ (ap (λ (z : List K). z ++ q.0) p.1 ∙ append_assoc A p.0 q.0))
