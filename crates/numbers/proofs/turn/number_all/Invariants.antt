use Rattle.std.proofs.Common.{ℕ, List, take}
use Rattle.std.specs.List.{AllByRecursion}
use Rattle.attributes.specs.Event.{EventValue}
use Rattle.attributes.specs.Fault.{IsEvent}
use Rattle.numbers.specs.Counts.{IsCountOf, KeepsKnown, KnowsEach, KnowsOnly}
use Rattle.numbers.specs.Numbered.{AreEachNumbered, HaveNumbers}
use Rattle.numbers.specs.Numberer.{number, taken}
use Rattle.numbers.proofs.turn.number_all.Given as goal

abbrev pub invariant-loop-i : goal.invariant-loop-i
invariant-loop-i l =
    AllByRecursion IsEvent l.batch × AreEachNumbered (take l.i l.events) l.batch
    × ((base : List ℕ → ℕ) (A : List EventValue) → IsCountOf base A l.fn.counted → KnowsEach base A l.fn.known l.events → HaveNumbers (number base (taken A (take l.i l.events))) (take l.i l.events) l.batch × IsCountOf base (taken A (take l.i l.events)) l.counted)
    × ((base : List ℕ → ℕ) (A : List EventValue) → IsCountOf base A l.fn.counted → KnowsEach base A l.fn.known l.events → KeepsKnown base A (taken A (take l.i l.events)) l.fn.known l.known)
    × ((base : List ℕ → ℕ) (A : List EventValue) → IsCountOf base A l.fn.counted → KnowsEach base A l.fn.known l.events → KnowsOnly base A l.fn.known → KnowsOnly base (taken A (take l.i l.events)) l.known)
