use Rattle.std.proofs.Common.{[]}
use Rattle.inbox.specs.KeyOrder.{key_cmp}
use Rattle.site.proofs.TakeLemmas.{arrivals_next}
use Rattle.site.proofs.site.Site.copy.Goals as goal

pub loop-i-preserved : goal.loop-i-preserved
loop-i-preserved c =
    arrivals_next key_cmp [] c.loop-i.copy c.args.self.now c.loop-i.i c.arrived_at.result.now c.take_copy.new.self c.arrived_at.ensures c.loop-i.invariant c.in_ok-take_copy.ensures.arrivals
