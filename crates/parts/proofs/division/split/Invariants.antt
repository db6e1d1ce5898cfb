use Rattle.std.proofs.Common.{◌≡◌, ◌<◌, ◌++◌, [], ℕ, get_or, length, vec_len}
use Rattle.parts.specs.Part.{part, part_of}
use Rattle.parts.proofs.division.split.Given as goal

abbrev pub invariant-loop-event : goal.invariant-loop-event
invariant-loop-event l =
    (vec_len l.parts ≡ l.count)
    × ((i : ℕ) → i < l.count → get_or l.parts.items i [] ++ part (part_of l.count) i l.events ≡ part (part_of l.count) i l.initial.events)

abbrev pub decreases-loop-event : goal.decreases-loop-event
decreases-loop-event l = length l.events
