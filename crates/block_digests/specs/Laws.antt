-- What the text of a block tells, and how the texts of a set's blocks change as an event comes. A
-- is a list of arrivals, L and E and F lists of events.
use Rattle.std.specs.Prelude.{◌≡◌, ℕ, List, [], ◌∷◌, ◌++◌, true, false, filter, Contains}
use Rattle.std.specs.List.{AllByRecursion}
use Rattle.std.specs.List.Sorted.{IsStrictlySortedBy}
use Rattle.std.specs.declared.cmp.Ordering.TheVariants.{Less}
use Rattle.attributes.specs.Event.{EventValue, text}
use Rattle.attributes.specs.Fault.{IsEvent}
use Rattle.inbox.specs.KeyOrder.{key_cmp}
use Rattle.inbox.specs.Ordered.{append_new, has}
use Rattle.inbox.specs.Sets.{AreEvents, set_of}
use Rattle.block_digests.specs.Block.{block, block_text, is_in_block, line_cmp}
use Rattle.block_digests.specs.Digest.{digest_in}

-- two lists of events whose texts of a block are equal have the same events in it
abbrev pub BlockTextsTell : Type 0
BlockTextsTell = (E F : List EventValue) (source : List ℕ) (k : ℕ) → AreEvents E → AreEvents F
    → block_text E source k ≡ block_text F source k
    → (e : EventValue) → Contains E e → is_in_block source k e ≡ true → Contains F e

-- a list of events that rises by number and text, and has just those arrivals that stand in a
-- block, is that block of their set
abbrev pub BlockIsOneList : Type 0
BlockIsOneList = (A L : List EventValue) (source : List ℕ) (k : ℕ) → AreEvents A → AreEvents L
    → IsStrictlySortedBy line_cmp L
    → ((e : EventValue) → has line_cmp L e ≡ has line_cmp (filter (is_in_block source k) A) e)
    → L ≡ block (set_of A) source k

-- an event that comes leaves the texts of all blocks in which it doesn't stand
abbrev pub OthersStay : Type 0
OthersStay = (A : List EventValue) (e : EventValue) (source : List ℕ) (k : ℕ) → AreEvents A
    → IsEvent e → is_in_block source k e ≡ false
    → block_text (set_of (append_new key_cmp A (e ∷ []))) source k
    ≡ block_text (set_of A) source k

-- an event that is greater by number and text than each of its block comes to the end of its text
abbrev pub GreaterAppends : Type 0
GreaterAppends = (A : List EventValue) (e : EventValue) (source : List ℕ) (k : ℕ) → AreEvents A
    → IsEvent e → is_in_block source k e ≡ true
    → AllByRecursion (λ f. line_cmp f e ≡ Less) (block (set_of A) source k)
    → block_text (set_of (append_new key_cmp A (e ∷ []))) source k
    ≡ block_text (set_of A) source k ++ (text e ++ 10 ∷ [])

-- the digests of arrivals' blocks are those of their set's
abbrev pub DigestsOfArrivals : Type 0
DigestsOfArrivals = (A : List EventValue) (source : List ℕ) (k : ℕ) → AreEvents A
    → digest_in (set_of A) source k ≡ digest_in A source k
