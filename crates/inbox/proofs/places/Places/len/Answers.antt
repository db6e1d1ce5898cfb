use Rattle.std.proofs.Common.{◌≡◌, ◌+◌, length, subst, arith}
use Rattle.inbox.specs.steps.Woven.{order}
use Rattle.inbox.proofs.WovenLemmas.{length-order}
use Rattle.inbox.proofs.places.Places.len.Goals as goal

pub returns : goal.returns
returns c =
    let all = length-order c.self.inside.settled.items c.self.inside.late.items c.self.invariant.0 in
    subst (λ v. c.len.result + c.len-2.result ≡ length (order v)) c.self.view_is (omega (arith, all, c.self.inside.settled.ok.0, c.self.inside.late.ok.0))
