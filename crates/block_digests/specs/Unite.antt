-- Two sites that bring one another what is lacking by digests. E and F are their sets, lists in key
-- order.
use Rattle.std.specs.Prelude.{◌≡◌, ◌≢◌, ◌⊎◌, ℕ, List}
use Rattle.sha2.specs.Sha256.{sha256}
use Rattle.attributes.specs.Event.{EventValue}
use Rattle.inbox.specs.Sets.{AreEvents, set_of, union}
use Rattle.block_digests.specs.Block.{block_text}
use Rattle.block_digests.specs.Lacking.{lacking}
use Rattle.block_digests.specs.Number.{HaveEachNumber}

-- the set F, with what it lacks of E by digests of blocks
abbrev pub told : List EventValue → List EventValue → List EventValue
told E F = union F (lacking E F)

-- two different texts of one block, one of each set, have one SHA-256
pub record Collide (E F : List EventValue) : Type 0 where
  pub source : List ℕ
  pub block : ℕ
  pub different : block_text E source block ≢ block_text F source block
  pub digest : sha256 (block_text E source block) ≡ sha256 (block_text F source block)

-- F is told what it lacks of E by digests, then E what it lacks of that: both are their union
pub record Unite (E F : List EventValue) : Type 0 where
  pub first : told E F ≡ union E F
  pub second : told (told E F) E ≡ union E F

-- one call each way unites the sets of two sites, or at one of the calls two different texts of one
-- block, one of each site's set at that call, have one SHA-256
abbrev pub GossipsUnite : Type 0
GossipsUnite = (A B : List EventValue) → AreEvents A → AreEvents B → HaveEachNumber A → HaveEachNumber B
    → Unite (set_of A) (set_of B)
    ⊎ (Collide (set_of A) (set_of B) ⊎ Collide (told (set_of A) (set_of B)) (set_of A))
