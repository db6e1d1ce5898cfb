use Rattle.std.proofs.Common.{◌≡◌, ◌<◌, ◌∙◌, length}
use Rattle.std.specs.List.Sorted.{IsPermutation}
use Rattle.std.proofs.lemmas.List.Sorted.{IsPermutation-swap, IsPermutation-trans, length_permutation}
use Rattle.event_files.proofs.key_order.arrange.Goals as goal

pub loop-preserved : goal.loop-preserved
loop-preserved c =
    let before = c.loop.events.items in
    let after = c.swap.new.self.items in
    let next = c.in-Some.place.now.at in
    let within : next < c.len-len.result = search (c.if-next-len.false) in
    let first : c.loop.at < length before = rw c.loop.invariant.len c.loop.invariant.within in
    let second : next < length before = rw c.loop.invariant.len within in
    let swapped : IsPermutation before after = IsPermutation-swap before after c.loop.at next first second c.swap.ensures.items in
    record {
      same = IsPermutation-trans _ _ _ c.loop.invariant.same swapped;
      len = length_permutation before after swapped ∙ c.loop.invariant.len;
      within = within;
    }
