-- Two sites that exchange events once each way.
pub use Rattle.block_digests.specs.Unite.{Collide, GossipsUnite, Unite, told}
use Rattle.std.specs.Prelude.{◌≡◌, List}
use Rattle.attributes.specs.Event.{EventValue}
use Rattle.inbox.specs.Sets.{AreEvents, set_of, union}

-- after a scrub each way both sites have the union of their sets
abbrev pub ScrubsUnite : Type 0
ScrubsUnite = (A B : List EventValue) → AreEvents A → AreEvents B
    → (union (set_of B) (set_of A) ≡ union (set_of A) (set_of B))
    × (union (set_of A) (union (set_of B) (set_of A)) ≡ union (set_of A) (set_of B))
