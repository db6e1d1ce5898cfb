-- Where pages of what a peer lacks go on.
use Rattle.std.specs.Prelude.{◌≡◌, ◌≤◌, ℕ, List, Option, IfSome, drop, length}
use Rattle.std.specs.BTreeSet.{BTreeSet}
use Rattle.attributes.specs.Event.{EventValue}
use Rattle.coverage.specs.Summary.{Sources}
use Rattle.inbox.specs.Sets.{set_of}
use Rattle.site.specs.Delta.{AreAll, Tells, delta, lacking_of}

-- a mark in a delta: behind this place of key order stand those that the peer lacks but for the
-- first so many; the site's summary tells which they are; if there are places, all stand there
pub record IsMark (A : List EventValue) (peer own : Sources) (among : Option (BTreeSet ℕ))
    (from place : ℕ) : Type 0 where
  pub all : IfSome among (AreAll (set_of A) peer)
  pub tells : Tells (set_of A) peer own
  pub within : place ≤ length (set_of A)
  pub rest : lacking_of (set_of A) peer (drop place (set_of A)) ≡ drop from (delta (set_of A) peer)
