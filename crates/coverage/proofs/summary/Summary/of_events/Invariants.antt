use Rattle.std.proofs.Common.{◌≡◌, ℕ, List, take}
use Rattle.inbox.specs.Sets.{AreEvents}
use Rattle.block_digests.specs.Kept.{IsKeptOf}
use Rattle.block_digests.specs.Number.{has_number}
use Rattle.coverage.specs.Summary.{holds_at}
use Rattle.coverage.proofs.summary.Summary.of_events.Given as goal

-- the numbers and the blocks are those of the events so far
abbrev pub invariant-loop-i : goal.invariant-loop-i
invariant-loop-i l =
    AreEvents (take l.i l.events) × ((s : List ℕ) (n : ℕ) → holds_at l.numbers s n ≡ has_number (take l.i l.events) s n)
    × IsKeptOf (take l.i l.events) l.blocks
