-- A finite set as the list of its members in an order, and a list that grows by what it lacks.
use Rattle.std.specs.Prelude.{◌≡◌, ℕ, ◌<◌, ◌≤◌, length, slice_index_or, List, [], ◌∷◌, ◌++◌, Bool, if◌then◌else◌}
use Rattle.std.specs.declared.cmp.Ordering.{Ordering}
use Rattle.std.specs.declared.cmp.Ordering.TheVariants.{Less}
use Rattle.std.specs.Ordering.{is_eq}
use Rattle.std.specs.List.{list_any}
use Rattle.std.specs.BTreeSet.{insert_key}

module _ {K : Type 0} (R : K → K → Ordering) where
  -- whether one of the items ties with x
  abbrev pub has : List K → K → Bool
  has xs x = list_any (λ y. is_eq (R x y)) xs

  -- the set E, with each of the items
  abbrev pub add_all : List K → List K → List K
  add_all E [] = E
  add_all E (x ∷ xs) = add_all (insert_key R E x) xs

  -- the items in order, each once: the list that stands for their set
  abbrev pub in_order : List K → List K
  in_order xs = add_all [] xs

  -- the list A, with each of the items at its end that is not there by then
  abbrev pub append_new : List K → List K → List K
  append_new A [] = A
  append_new A (x ∷ xs) = append_new (if has A x then A else A ++ x ∷ []) xs

  -- x goes in at i: lesser items before it, and greater ones from there on
  pub record IsGapFor (E : List K) (x : K) (i : ℕ) : Type 0 where
    pub in_range : i ≤ length E
    pub before : (j : ℕ) (d : K) → j < i → R (slice_index_or E j d) x ≡ Less
    pub after : (j : ℕ) (d : K) → i ≤ j → j < length E → R x (slice_index_or E j d) ≡ Less
