-- What is one of the items: of a filtered list, and of a list with one more item.
use Rattle.std.proofs.Common.{◌≡◌, ℕ, zero, suc, ◌+◌, ◌<◌, ◌≤◌, ◌⊎◌, inl, inr, List, [], ◌∷◌, ◌++◌, Bool, true, false, ◌||◌, cond, filter, length, refl, sym, ap, ◌∙◌, arith, Some, slice_get}
use Rattle.std.specs.Prelude.{Contains, slice_index_or}
use Rattle.std.specs.declared.cmp.Ordering.{Ordering}
use Rattle.std.specs.declared.cmp.Ordering.TheVariants.{Less, Equal, Greater}
use Rattle.std.specs.Ordering.{is_eq, match_ordering}
use Rattle.std.specs.List.{AllByRecursion}
use Rattle.std.specs.BTreeSet.{insert_key}
use Rattle.std.proofs.lemmas.Option.{get_or_from_slice_get, slice_get-get_or, slice_get_within}
use mathlib.Core.Bool.{true≢false}
use Rattle.inbox.specs.Ordered.{add_all, has, in_order}

pub at_head : {X : Type 0} (x : X) (xs : List X) → Contains (x ∷ xs) x
at_head x xs = (0, omega arith, refl)

pub behind : {X : Type 0} (y x : X) (xs : List X) → Contains xs x → Contains (y ∷ xs) x
behind y x xs c = (suc c.0, omega (arith, c.1), c.2)

pub head_or_behind : {X : Type 0} (y x : X) (xs : List X) → Contains (y ∷ xs) x → (y ≡ x) ⊎ Contains xs x
head_or_behind {X} y x xs c = from c.0 c.1 c.2
  where
    from : (k : ℕ) → k < length (y ∷ xs) → slice_index_or (y ∷ xs) k x ≡ x → (y ≡ x) ⊎ Contains xs x
    from zero l e = inl e
    from (suc k) l e = inr (k, omega (arith, l), e)

pub place_in : {X : Type 0} (xs : List X) (x : X) → Contains xs x → (k : ℕ) × (slice_get xs k ≡ Some x)
place_in xs x c = (c.0, slice_get-get_or xs c.0 x c.1 ∙ ap Some c.2)

pub at_place : {X : Type 0} (xs : List X) (x : X) (k : ℕ) → slice_get xs k ≡ Some x → Contains xs x
at_place xs x k h = (k, slice_get_within xs k x h, get_or_from_slice_get xs k x x h)

pub all_in : {X : Type 0} (P : X → Type 0) (xs : List X) (x : X) → AllByRecursion P xs → Contains xs x → P x
all_in P [] x a c = absurd (omega (arith, c.1))
all_in P (y ∷ ys) x a c = elim (head_or_behind y x ys c) as (λ _. P x) [ inl e ↦ rw (← e) a.0 | inr d ↦ all_in P ys x a.1 d ]

-- ---- a filter
pub from_filter : {X : Type 0} (p : X → Bool) (xs : List X) (x : X) → Contains (filter p xs) x → Contains xs x × (p x ≡ true)
from_filter p [] x c = absurd (omega (arith, c.1))
from_filter p (y ∷ ys) x c =
    elim (p y) as (λ b. p y ≡ b → Contains (cond b (y ∷ filter p ys) (filter p ys)) x → Contains (y ∷ ys) x × (p x ≡ true)) [
      | true ↦ λ t c. elim (head_or_behind y x (filter p ys) c) as (λ _. Contains (y ∷ ys) x × (p x ≡ true)) [
        | inl e ↦ (rw e (at_head x ys), ap p (sym e) ∙ t)
        | inr d ↦ let r = from_filter p ys x d in (behind y x ys r.0, r.1)
      ]
      | false ↦ λ t c. let r = from_filter p ys x c in (behind y x ys r.0, r.1)
    ] refl c

pub to_filter : {X : Type 0} (p : X → Bool) (xs : List X) (x : X) → Contains xs x → p x ≡ true → Contains (filter p xs) x
to_filter p [] x c t = absurd (omega (arith, c.1))
to_filter p (y ∷ ys) x c t =
    elim (head_or_behind y x ys c) as (λ _. Contains (cond (p y) (y ∷ filter p ys) (filter p ys)) x) [
      | inl e ↦ first (p y) (ap p e ∙ t) e
      | inr d ↦ kept (p y) (to_filter p ys x d t)
    ]
  where
    first : (b : Bool) → b ≡ true → y ≡ x → Contains (cond b (y ∷ filter p ys) (filter p ys)) x
    first true h e = (0, omega arith, e)
    first false h e = absurd (true≢false (sym h))

    kept : (b : Bool) → Contains (filter p ys) x → Contains (cond b (y ∷ filter p ys) (filter p ys)) x
    kept true d = behind y x (filter p ys) d
    kept false d = d

module _ {K : Type 0} (R : K → K → Ordering) where
  -- ---- one more item
  pub from_inserted : (E : List K) (e x : K) → Contains (insert_key R E e) x → (x ≡ e) ⊎ Contains E x
  from_inserted [] e x c = elim (head_or_behind e x [] c) as (λ _. (x ≡ e) ⊎ Contains [] x) [ inl h ↦ inl (sym h) | inr d ↦ inr d ]
  from_inserted (y ∷ ys) e x c =
      elim (R e y) as (λ r. Contains (match_ordering r (e ∷ y ∷ ys) (y ∷ ys) (y ∷ insert_key R ys e)) x → (x ≡ e) ⊎ Contains (y ∷ ys) x) [
        | Less ↦ λ c. elim (head_or_behind e x (y ∷ ys) c) as (λ _. (x ≡ e) ⊎ Contains (y ∷ ys) x) [ inl h ↦ inl (sym h) | inr d ↦ inr d ]
        | Equal ↦ λ c. inr c
        | Greater ↦ λ c. elim (head_or_behind y x (insert_key R ys e) c) as (λ _. (x ≡ e) ⊎ Contains (y ∷ ys) x) [
          | inl h ↦ inr (rw h (at_head x ys))
          | inr d ↦ elim (from_inserted ys e x d) as (λ _. (x ≡ e) ⊎ Contains (y ∷ ys) x) [ inl h ↦ inl h | inr f ↦ inr (behind y x ys f) ]
        ]
      ] c

  pub to_inserted : (E : List K) (e x : K) → Contains E x → Contains (insert_key R E e) x
  to_inserted [] e x c = absurd (omega (arith, c.1))
  to_inserted (y ∷ ys) e x c =
      elim (R e y) as (λ r. Contains (match_ordering r (e ∷ y ∷ ys) (y ∷ ys) (y ∷ insert_key R ys e)) x) [
        | Less ↦ behind e x (y ∷ ys) c
        | Equal ↦ c
        | Greater ↦ elim (head_or_behind y x ys c) as (λ _. Contains (y ∷ insert_key R ys e) x) [
          | inl h ↦ rw h (at_head x (insert_key R ys e))
          | inr d ↦ behind y x (insert_key R ys e) (to_inserted ys e x d)
        ]
      ]

  pub is_inserted : (E : List K) (e : K) → has R E e ≡ false → Contains (insert_key R E e) e
  is_inserted [] e h = at_head e []
  is_inserted (y ∷ ys) e h =
      elim (R e y) as (λ r. (is_eq r || has R ys e) ≡ false → Contains (match_ordering r (e ∷ y ∷ ys) (y ∷ ys) (y ∷ insert_key R ys e)) e) [
        | Less ↦ λ h. at_head e (y ∷ ys)
        | Equal ↦ λ h. absurd (true≢false h)
        | Greater ↦ λ h. behind y e (insert_key R ys e) (is_inserted ys e h)
      ] h

  -- ---- how many there are
  length_inserted : (E : List K) (e : K) → length (insert_key R E e) ≤ suc (length E)
  length_inserted [] e = omega arith
  length_inserted (y ∷ ys) e =
      elim (R e y) as (λ r. length (match_ordering r (e ∷ y ∷ ys) (y ∷ ys) (y ∷ insert_key R ys e)) ≤ suc (suc (length ys))) [
        | Less ↦ omega arith
        | Equal ↦ omega arith
        | Greater ↦ omega (arith, length_inserted ys e)
      ]

  length_added : (E xs : List K) → length (add_all R E xs) ≤ length E + length xs
  length_added E [] = omega arith
  length_added E (x ∷ xs) = omega (arith, length_added (insert_key R E x) xs, length_inserted E x)

  pub length_in_order : (xs : List K) → length (in_order R xs) ≤ length xs
  length_in_order xs = omega (arith, length_added [] xs)

pub length_filtered : {X : Type 0} (p : X → Bool) (xs : List X) → length (filter p xs) ≤ length xs
length_filtered p [] = omega arith
length_filtered p (x ∷ xs) = elim (p x) as (λ b. length (cond b (x ∷ filter p xs) (filter p xs)) ≤ suc (length xs)) [
  | true ↦ omega (arith, length_filtered p xs)
  | false ↦ omega (arith, length_filtered p xs)
]

-- ---- a list that grows at its end
pub was_there : {X : Type 0} (xs : List X) (y x : X) (k : ℕ) → slice_get xs k ≡ Some x → slice_get (xs ++ y ∷ []) k ≡ Some x
was_there [] y x k h = absurd (cc)
was_there (z ∷ zs) y x zero h = h
was_there (z ∷ zs) y x (suc k) h = was_there zs y x k h

pub is_last : {X : Type 0} (xs : List X) (y : X) → slice_get (xs ++ y ∷ []) (length xs) ≡ Some y
is_last [] y = refl
is_last (x ∷ xs) y = is_last xs y
