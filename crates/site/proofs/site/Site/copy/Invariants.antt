use Rattle.std.proofs.Common.{◌≡◌, [], take}
use Rattle.inbox.specs.KeyOrder.{key_cmp}
use Rattle.inbox.specs.Ordered.{append_new}
use Rattle.site.proofs.site.Site.copy.Given as goal

abbrev pub invariant-loop-i : goal.invariant-loop-i
invariant-loop-i l = l.copy ≡ append_new key_cmp [] (take l.i l.self)
