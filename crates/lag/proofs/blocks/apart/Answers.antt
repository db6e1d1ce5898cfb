use Rattle.std.proofs.Common.{rules, arith, ◌≡◌, ◌<◌, ◌+◌, ◌∷◌, drop, length, subst, ap}
use Rattle.std.specs.Map.Iter.{deref_pair}
use Rattle.coverage.specs.Summary.{Entries}
use Rattle.lag.specs.Blocks.{apart}
use Rattle.lag.proofs.Entries.{entry_at}
use Rattle.lag.proofs.blocks.apart.Goals as goal

pub loop-i-preserved : goal.loop-i-preserved
loop-i-preserved c small =
    let first = c.args.first.now in
    let second = c.args.second.now in
    let inside : c.loop-i.i < length c.in_ok-entries.entries.items = search rules in
    let here = entry_at deref_pair c.in_ok-entries.entries.items c.loop-i.i c.index.result.now inside c.index.ensures in
    let at = subst (λ (l : Entries). drop c.loop-i.i l ≡ deref_pair c.index.result.now ∷ drop (c.loop-i.i + 1) l) c.in_ok-entries.ensures.entries here in
    let sum = c.saturating_add-count.ensures in
    let before : c.loop-i.count < 18446744073709551615 = omega (arith, small, sum) in
    let so_far = c.loop-i.invariant before in
    let one : c.apart_of.result < 18446744073709551615 = omega (arith, small, sum) in
    let more = c.apart_of.ensures one in
    let split = ap (λ (l : Entries). apart first second c.args.alone l) at in
    omega (arith, small, sum, so_far, more, split)
