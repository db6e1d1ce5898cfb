-- What a pass over the entries of a map has gathered of them.
use Rattle.std.proofs.Common.{◌≡◌, List, [], ◌∷◌, Bool, true, false, Option, Some, None, is_some, refl, sym, ap, subst, ◌∙◌, if◌then◌else◌}
use Rattle.std.specs.List.{AllByRecursion}
use Rattle.std.specs.List.Sorted.{IsStrictlySortedBy}
use Rattle.std.specs.Map.{keys_of, lookup}
use Rattle.std.specs.BTreeMap.{is_at}
use Rattle.std.specs.Option.{option_and_then, option_map_or}
use Rattle.std.specs.Ordering.{is_eq, ordering_reverse}
use Rattle.std.specs.Cmp.{IsTotalOrder}
use Rattle.std.specs.declared.cmp.Ordering.{Ordering}
use Rattle.std.specs.declared.cmp.Ordering.TheVariants.{Less, Equal, Greater}
use mathlib.Core.Bool.{true≢false}

is_equal : (r : Ordering) → is_eq r ≡ true → r ≡ Equal
is_equal Less h = absurd (true≢false (sym h))
is_equal Equal h = refl
is_equal Greater h = absurd (true≢false (sym h))

is_eq-reverse : (r : Ordering) → is_eq (ordering_reverse r) ≡ is_eq r
is_eq-reverse Less = refl
is_eq-reverse Equal = refl
is_eq-reverse Greater = refl

pub no_value : {X : Type 0} (x : X) → None ≡ Some x → ⊥
no_value x h = true≢false (sym (ap is_some h))

pub same_value : {X : Type 0} (x y : X) → Some x ≡ Some y → x ≡ y
same_value x y h = ap (λ o. option_map_or (λ z. z) o x) h

-- what was gathered: nothing of the entries that are left, and of the others what F gives
pub record IsGathered {K X Y : Type 0} (R : K → K → Ordering) (F : X → Option Y) (all left : List (K × X)) (has : K → Option Y) : Type 0 where
  pub sorted : IsStrictlySortedBy R (keys_of left)
  pub agree : (q : K) (v : X) → lookup (is_at (R q)) left ≡ Some v → lookup (is_at (R q)) all ≡ Some v
  pub told : (q : K) → has q ≡ (if is_some (lookup (is_at (R q)) left) then None else option_and_then F (lookup (is_at (R q)) all))

module _ {K X Y : Type 0} {R : K → K → Ordering} (o : IsTotalOrder R) (F : X → Option Y) where
  pub is_at-flip : (k q : K) → is_at (R k) q ≡ is_at (R q) k
  is_at-flip k q = ap is_eq (o.antisymm k q) ∙ is_eq-reverse (R q k)

  below : (es : List (K × X)) (q : K) → AllByRecursion (λ z. R q z ≡ Less) (keys_of es) → lookup (is_at (R q)) es ≡ None
  below [] q a = refl
  below (e ∷ es) q a = ap (λ r. if is_eq r then Some e.1 else lookup (is_at (R q)) es) a.0 ∙ below es q a.1

  tied_below : (q x : K) (ks : List K) → R q x ≡ Equal → AllByRecursion (λ z. R x z ≡ Less) ks → AllByRecursion (λ z. R q z ≡ Less) ks
  tied_below q x [] t a = tt
  tied_below q x (k ∷ ks) t a = (o.congr q x k t ∙ a.0, tied_below q x ks t a.1)

  at_head : (q k : K) (v : X) (rest : List (K × X)) → is_at (R q) k ≡ true → lookup (is_at (R q)) ((k, v) ∷ rest) ≡ Some v
  at_head q k v rest h = ap (λ b. if b then Some v else lookup (is_at (R q)) rest) h

  past : (q k : K) (v : X) (rest : List (K × X)) → is_at (R q) k ≡ false → lookup (is_at (R q)) ((k, v) ∷ rest) ≡ lookup (is_at (R q)) rest
  past q k v rest h = ap (λ b. if b then Some v else lookup (is_at (R q)) rest) h

  behind : (q k : K) (v : X) (rest : List (K × X)) → IsStrictlySortedBy R (keys_of ((k, v) ∷ rest)) → is_at (R q) k ≡ true → lookup (is_at (R q)) rest ≡ None
  unfolding IsStrictlySortedBy
  behind q k v rest s h = below rest q (tied_below q k (keys_of rest) (is_equal (R q k) h) s.0)

  tail : (k : K) (v : X) (rest : List (K × X)) → IsStrictlySortedBy R (keys_of ((k, v) ∷ rest)) → IsStrictlySortedBy R (keys_of rest)
  unfolding IsStrictlySortedBy
  tail k v rest s = s.1

  pub gather_start : (all : List (K × X)) (has : K → Option Y) → IsStrictlySortedBy R (keys_of all) → ((q : K) → has q ≡ None) → IsGathered R F all all has
  gather_start all has s n = record {
    sorted = s;
    agree = λ q v h. h;
    told = λ q. n q ∙ by_value (lookup (is_at (R q)) all);
  }
    where
      by_value : (p : Option X) → None ≡ (if is_some p then None else option_and_then F p)
      by_value None = refl
      by_value (Some v) = refl

  pub gather_next : (all left : List (K × X)) (k : K) (v : X) (rest : List (K × X)) (has new : K → Option Y) → IsGathered R F all left has → left ≡ (k, v) ∷ rest
      → ((q : K) → new q ≡ (if is_at (R q) k then F v else has q)) → IsGathered R F all rest new
  gather_next all left k v rest has new g is made = record {
    sorted = tail k v rest sorted;
    agree = λ q w h. by_test q w h (is_at (R q) k) refl;
    told = λ q. made q ∙ at q (is_at (R q) k) refl;
  }
    where
      sorted : IsStrictlySortedBy R (keys_of ((k, v) ∷ rest))
      sorted = subst (λ l. IsStrictlySortedBy R (keys_of l)) is g.sorted

      by_test : (q : K) (w : X) → lookup (is_at (R q)) rest ≡ Some w → (b : Bool) → is_at (R q) k ≡ b → lookup (is_at (R q)) all ≡ Some w
      by_test q w h true t = absurd (no_value w (sym (behind q k v rest sorted t) ∙ h))
      by_test q w h false t = g.agree q w (ap (lookup (is_at (R q))) is ∙ past q k v rest t ∙ h)

      at : (q : K) (b : Bool) → is_at (R q) k ≡ b → (if is_at (R q) k then F v else has q) ≡ (if is_some (lookup (is_at (R q)) rest) then None else option_and_then F (lookup (is_at (R q)) all))
      at q true t =
          ap (λ c. if c then F v else has q) t
          ∙ sym (ap (λ p. if is_some p then None else option_and_then F (lookup (is_at (R q)) all)) (behind q k v rest sorted t)
          ∙ ap (option_and_then F) (g.agree q v (ap (lookup (is_at (R q))) is ∙ at_head q k v rest t)))
      at q false t =
          ap (λ c. if c then F v else has q) t ∙ g.told q
          ∙ ap (λ p. if is_some p then None else option_and_then F (lookup (is_at (R q)) all)) (ap (lookup (is_at (R q))) is ∙ past q k v rest t)

  -- an entry that gives nothing
  pub gather_skip : (all left : List (K × X)) (k : K) (v : X) (rest : List (K × X)) (has : K → Option Y) → IsGathered R F all left has → left ≡ (k, v) ∷ rest
      → F v ≡ None → IsGathered R F all rest has
  gather_skip all left k v rest has g is none = gather_next all left k v rest has has g is (λ q. by_test q (is_at (R q) k) refl)
    where
      by_test : (q : K) (b : Bool) → is_at (R q) k ≡ b → has q ≡ (if is_at (R q) k then F v else has q)
      by_test q true t =
          g.told q ∙ ap (λ p. if is_some p then None else option_and_then F (lookup (is_at (R q)) all)) (ap (lookup (is_at (R q))) is ∙ at_head q k v rest t)
          ∙ sym (ap (λ c. if c then F v else has q) t ∙ none)
      by_test q false t = sym (ap (λ c. if c then F v else has q) t)

  pub gather_end : (all left : List (K × X)) (has : K → Option Y) → IsGathered R F all left has → left ≡ [] → (q : K) → has q ≡ option_and_then F (lookup (is_at (R q)) all)
  gather_end all left has g is q = g.told q ∙ ap (λ l. if is_some (lookup (is_at (R q)) l) then None else option_and_then F (lookup (is_at (R q)) all)) is
