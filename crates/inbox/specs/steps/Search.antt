-- How a search through settled and late positions ends, for items A that are compared with what is
-- sought.
use Rattle.std.specs.Prelude.{◌≡◌, ◌≢◌, ℕ, ◌+◌, ◌<◌, ◌≤◌, List, length, slice_index_or, slice_get, Some}
use Rattle.std.specs.declared.cmp.Ordering.{Ordering}
use Rattle.std.specs.declared.cmp.Ordering.TheVariants.{Less}
use Rattle.inbox.specs.declared.places.Late.{Late}
use Rattle.inbox.specs.steps.Woven.{Placed}

module _ {K : Type 0} (C : K → Ordering) where
  -- what is sought goes in at i: lesser items before it, and none from there on
  pub record IsLowerBound (E : List K) (i : ℕ) : Type 0 where
    pub in_range : i ≤ length E
    pub before : (j : ℕ) (d : K) → j < i → C (slice_index_or E j d) ≡ Less
    pub after : (j : ℕ) (d : K) → i ≤ j → j < length E → C (slice_index_or E j d) ≢ Less

  -- the settled item right before `low` is lesser, and the one at `high` is not
  pub record SplitsSettled (A : List K) (settled : List ℕ) (low high : ℕ) : Type 0 where
    pub within : high ≤ length settled
    pub before : (j p : ℕ) (x : K) → j + 1 ≡ low → slice_get settled j ≡ Some p
        → slice_get A p ≡ Some x → C x ≡ Less
    pub after : (p : ℕ) (x : K) → slice_get settled high ≡ Some p
        → slice_get A p ≡ Some x → C x ≢ Less

  -- the late item right before `low` stands before the place behind r settled ones, and the one at
  -- `high` does not
  pub record SplitsLate (A : List K) (late : List Late) (r low high : ℕ) : Type 0 where
    pub within : high ≤ length late
    pub before : (j : ℕ) (l : Late) (x : K) → j + 1 ≡ low → slice_get late j ≡ Some l
        → slice_get A l.position ≡ Some x → (l.before ≤ r) × (l.before ≡ r → C x ≡ Less)
    pub after : (l : Late) (x : K) → slice_get late high ≡ Some l → slice_get A l.position ≡ Some x
        → (r ≤ l.before) × (l.before ≡ r → C x ≢ Less)

  -- r settled items are lesser
  abbrev pub SettledEnd : List K → Placed → ℕ → Type 0
  SettledEnd A p r = SplitsSettled A p.settled r r

  -- k late items stand before the place behind r settled ones
  abbrev pub LateEnd : List K → Placed → ℕ → ℕ → Type 0
  LateEnd A p r k = SplitsLate A p.late r k k
