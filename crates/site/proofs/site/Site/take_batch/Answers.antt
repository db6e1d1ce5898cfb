use Rattle.std.proofs.Common.{length, take, drop, ap, ◌∙◌, arith}
use Rattle.std.proofs.lemmas.List.{length-take}
use Rattle.inbox.specs.KeyOrder.{key_cmp}
use Rattle.inbox.specs.Ordered.{append_new}
use Rattle.inbox.specs.Sets.{set_of, union}
use Rattle.site.proofs.TakeLemmas.{arrivals_step, drop_step, length-append_new, set_step}
use Rattle.site.proofs.site.Site.take_batch.Goals as goal

pub loop-i-preserved : goal.loop-i-preserved
loop-i-preserved c =
    let L = c.args.batch.now in
    let next = take 1 c.loop-i.batch in
    let bounds = length-append_new key_cmp c.loop-i.self next in
    let same = ap length c.in-Ok.ensures.arrivals in
    let rest = c.loop-i.invariant.rest in
    record {
      arrivals = arrivals_step key_cmp c.args.self.now c.loop-i.self L c.loop-i.i c.take_next.new.self c.loop-i.invariant.arrivals (c.in-Ok.ensures.arrivals ∙ ap (λ l. append_new key_cmp c.loop-i.self (take 1 l)) rest);
      set = set_step key_cmp (set_of c.args.self.now) (set_of c.loop-i.self) L c.loop-i.i (set_of c.take_next.new.self) c.loop-i.invariant.set (c.in-Ok.ensures.set ∙ ap (λ l. union (set_of c.loop-i.self) (take 1 l)) rest);
      rest = c.in-Ok.ensures.rest ∙ ap (drop 1) rest ∙ drop_step L c.loop-i.i;
      no_fewer = omega (arith, same, bounds.0, c.loop-i.invariant.no_fewer);
      no_more = omega (arith, same, bounds.1, length-take 1 c.loop-i.batch, c.loop-i.invariant.no_more);
    }
