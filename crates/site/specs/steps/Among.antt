-- Places of key order among which what a peer lacks is found. A is a list of arrivals.
use Rattle.std.specs.Prelude.{◌≡◌, ◌<◌, ◌≤◌, ℕ, List, true, false, Some, slice_get}
use Rattle.std.specs.BTreeSet.{BTreeSet, contains}
use Rattle.std.specs.Ordering.{nat_cmp}
use Rattle.attributes.specs.Event.{EventValue}
use Rattle.coverage.specs.Summary.{Sources}
use Rattle.inbox.specs.Sets.{set_of}
use Rattle.block_digests.specs.Block.{is_in_block}
use Rattle.site.specs.Delta.{is_wanting}

-- the second set of a delta's places has all places of the first
abbrev pub AllIn : BTreeSet ℕ → BTreeSet ℕ → Type 0
AllIn s t = (q : ℕ) → contains nat_cmp s q ≡ true → contains nat_cmp t q ≡ true

-- a delta's places have that in key order of the site's event that came at a place
abbrev pub HasPlace : List EventValue → BTreeSet ℕ → ℕ → Type 0
HasPlace A places p = (e : EventValue) (i : ℕ) → slice_get A p ≡ Some e
    → slice_get (set_of A) i ≡ Some e → contains nat_cmp places i ≡ true

-- a delta's places have that in key order of each event that came to the site at one of these
abbrev pub HasEach : List EventValue → BTreeSet ℕ → List ℕ → Type 0
HasEach A places ps = (j p : ℕ) → slice_get ps j ≡ Some p → HasPlace A places p

-- no place that a delta looks at is this one or greater
abbrev pub NoPlaceFrom : BTreeSet ℕ → ℕ → Type 0
NoPlaceFrom places from = (q : ℕ) → from ≤ q → contains nat_cmp places q ≡ false

-- this place of a delta isn't lesser, and no place stands between
pub record IsNextFrom (places : BTreeSet ℕ) (from next : ℕ) : Type 0 where
  pub later : from ≤ next
  pub none_between : (q : ℕ) → from ≤ q → q < next → contains nat_cmp places q ≡ false

-- the peer wants no event of a block that came to the site
abbrev pub WantsNone : List EventValue → Sources → Sources → List ℕ → ℕ → Type 0
WantsNone A peer own source k = (p : ℕ) (e : EventValue) → slice_get A p ≡ Some e
    → is_in_block source k e ≡ true → is_wanting peer own e ≡ false
