use Rattle.std.proofs.Common.{◌≡◌, ℕ, List, length, take}
use Rattle.std.specs.List.{AllByRecursion}
use Rattle.attributes.specs.Event.{EventValue}
use Rattle.attributes.specs.Fault.{IsEvent}
use Rattle.inbox_table.specs.Calls.{joined}
use Rattle.numbers.specs.Counts.{IsCountOf, KeepsKnown, KnowsEach, KnowsOnly}
use Rattle.numbers.specs.Numberer.{taken}
use Rattle.number_table.specs.Each.{AnswersEach, AreNumberedEach}
use Rattle.number_table.proofs.lists.number_lists.Given as goal

abbrev pub invariant-loop-i : goal.invariant-loop-i
invariant-loop-i l =
    AllByRecursion (AllByRecursion IsEvent) l.answers
    × (length l.answers ≡ l.i)
    × AreNumberedEach (take l.i l.lists) l.answers
    × ((base : List ℕ → ℕ) (A : List EventValue) → IsCountOf base A l.fn.counted → KnowsEach base A l.fn.known (joined l.lists) → AnswersEach base A (take l.i l.lists) l.answers × IsCountOf base (taken A (joined (take l.i l.lists))) l.counted × KeepsKnown base A (taken A (joined (take l.i l.lists))) l.fn.known l.known)
    × ((base : List ℕ → ℕ) (A : List EventValue) → IsCountOf base A l.fn.counted → KnowsEach base A l.fn.known (joined l.lists) → KnowsOnly base A l.fn.known → KnowsOnly base (taken A (joined (take l.i l.lists))) l.known)
