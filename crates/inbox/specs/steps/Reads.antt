-- Positions that read a list in an order.
use Rattle.std.specs.Prelude.{◌≡◌, ℕ, List, Some, map, slice_get}
use Rattle.std.specs.declared.cmp.Ordering.{Ordering}
use Rattle.inbox.specs.Ordered.{in_order}

module _ {K : Type 0} (R : K → K → Ordering) where
  -- the positions read the items of A in order, each once
  abbrev pub ReadsInOrder : List K → List ℕ → Type 0
  ReadsInOrder A positions = map (λ p. slice_get A p) positions ≡ map Some (in_order R A)

-- the position at place i of an inbox's order reads the item x of A
abbrev pub ReadsAt : {K : Type 0} → List K → List ℕ → ℕ → K → Type 0
ReadsAt A positions i x = (p : ℕ) × (slice_get positions i ≡ Some p) × (slice_get A p ≡ Some x)
