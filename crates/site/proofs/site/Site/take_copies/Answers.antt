use Rattle.std.proofs.Common.{◌∷◌, [], length, ap, arith}
use Rattle.inbox.specs.KeyOrder.{key_cmp}
use Rattle.inbox.specs.Sets.{set_of}
use Rattle.site.proofs.TakeLemmas.{arrivals_next, length-append_new, set_next}
use Rattle.site.proofs.site.Site.take_copies.Goals as goal

pub loop-i-preserved : goal.loop-i-preserved
loop-i-preserved c =
    let L = c.args.batch.now in
    let x = c.at.result.now in
    let bounds = length-append_new key_cmp c.loop-i.self (x ∷ []) in
    let same = ap length c.in-Ok.ensures.arrivals in
    record {
      arrivals = arrivals_next key_cmp c.args.self.now c.loop-i.self L c.loop-i.i x c.take_copy.new.self c.at.ensures c.loop-i.invariant.arrivals c.in-Ok.ensures.arrivals;
      set = set_next key_cmp (set_of c.args.self.now) (set_of c.loop-i.self) L c.loop-i.i x (set_of c.take_copy.new.self) c.at.ensures c.loop-i.invariant.set c.in-Ok.ensures.set;
      no_fewer = omega (arith, same, bounds.0, c.loop-i.invariant.no_fewer);
      no_more = omega (arith, same, bounds.1, c.loop-i.invariant.no_more);
    }
