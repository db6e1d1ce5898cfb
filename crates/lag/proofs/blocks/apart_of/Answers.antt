use Rattle.std.proofs.Common.{arith, ◌≡◌, ◌≤◌, ◌<◌, ◌-◌, ◌+◌, ◌/◌, ◌∙◌, ℕ, Bool, List, drop, filter, length, max, ap}
use Rattle.std.proofs.lemmas.List.{drop_all}
use Rattle.coverage.specs.Intervals.{Interval}
use Rattle.lag.specs.Blocks.{blocks_from, is_apart, span}
use Rattle.lag.proofs.BlockLemmas.{both_count, few, next_is}
use Rattle.lag.proofs.blocks.apart_of.Goals as goal

pub overflow_add-from : goal.overflow_add-from
overflow_add-from c =
    let inv = c.loop-i.invariant in
    let next = next_is c.args.numbers.now c.loop-i.i c.loop-i.from (c.in-Some.low, c.in-Some.high) c.size-i-end.ensures.canonical
    (record { within = inv.0; before = inv.1; behind = inv.2 }) c.in-Some.ensures in
    record { fits = omega (arith, next.bounded) }

pub loop-i-preserved : goal.loop-i-preserved
loop-i-preserved c =
    let inv = c.loop-i.invariant in
    let ps = c.args.numbers.now in
    let i = c.loop-i.i in
    let b = c.loop-i.block in
    let f : ℕ → Bool = is_apart c.args.first.now c.args.second.now c.args.alone c.args.source.now in
    let next = next_is ps i c.loop-i.from (c.in-Some.low, c.in-Some.high) c.size-i-end.ensures.canonical
    (record { within = inv.0; before = inv.1; behind = inv.2 }) c.in-Some.ensures in (
      next.at.within,
      next.at.before,
      next.at.behind,
      λ small.
          let sum = c.saturating_add-count.ensures in
          let before : c.loop-i.count < 18446744073709551615 = omega (arith, small, sum) in
          let so_far = inv.3 before in
          let first : c.max.result ≡ max b (c.in-Some.low / 1024) = c.max.ensures in
          let second : c.max-block.result ≡ max b (c.in-Some.high / 1024 + 1) = c.max-block.ensures in
          let one = span (max b (c.in-Some.low / 1024)) (c.in-Some.high / 1024 + 1 - max b (c.in-Some.low / 1024)) in
          let rest = blocks_from (max b (c.in-Some.high / 1024 + 1)) (drop (i + 1) ps) in
          let split : length (filter f (blocks_from b (drop i ps))) ≡ length (filter f one) + length (filter f rest) =
          ap (λ (l : List Interval). length (filter f (blocks_from b l))) next.rest ∙ both_count f one rest in
          let more : c.apart_in-more.result ≡ length (filter f one) = c.apart_in-more.ensures.count ∙ ap (λ n. length (filter f (span n (c.in-Some.high / 1024 + 1 - n)))) first in
          let left : length (filter f (blocks_from c.max-block.result (drop (i + 1) ps))) ≡ length (filter f rest) = ap (λ n. length (filter f (blocks_from n (drop (i + 1) ps)))) second in
          omega (arith, small, sum, so_far, split, more, left),
    )

pub returns : goal.returns
returns c small =
    let inv = c.loop-i.invariant in
    let ps = c.args.numbers.now in
    let f : ℕ → Bool = is_apart c.args.first.now c.args.second.now c.args.alone c.args.source.now in
    let all = few ps in
    let over : length ps ≤ c.loop-i.i = omega (arith, all, c.loop-i-test.false, c.size-i-end.ensures.size) in
    let end = drop_all c.loop-i.i ps over in
    let so_far = inv.3 small in
    let none : length (filter f (blocks_from c.loop-i.block (drop c.loop-i.i ps))) ≡ 0 = ap (λ (l : List Interval). length (filter f (blocks_from c.loop-i.block l))) end in
    omega (arith, so_far, none)
