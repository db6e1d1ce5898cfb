use Rattle.std.proofs.Common.{◌≡◌, length, arith, ap}
use Rattle.inbox.specs.steps.Woven.{order}
use Rattle.inbox.proofs.WovenLemmas.{length-order}
use Rattle.inbox.proofs.places.Places.reserve.Goals as goal

pub overflow_sub-wanted : goal.overflow_sub-wanted
overflow_sub-wanted c =
    let size = length-order c.self.inside.settled.items c.self.inside.late.items c.self.invariant.0 in
    let len : c.len.result ≡ length (order c.args.self.now) = c.len.ensures in
    let view = ap (λ p. length (order p)) c.self.view_is in
    let added = c.in-Some.ensures in
    omega (arith, size, len, view, added, c.len-2.ensures, c.self.inside.settled.ok.0)

pub returns-clause-ok : goal.returns-clause-ok
returns-clause-ok c =
    let size = length-order c.self.inside.settled.items c.self.inside.late.items c.self.invariant.0 in
    let len : c.len.result ≡ length (order c.args.self.now) = c.len.ensures in
    let view = ap (λ p. length (order p)) c.self.view_is in
    let added = c.in-Some.ensures in
    let settled = c.in_ok-reserve.ensures.ok in
    let other = c.in_ok-reserve-2.ensures.ok in
    omega (arith, size, len, view, added, settled, other, c.len-2.ensures, c.self.inside.settled.ok.0, c.self.inside.late.ok.0, c.reserve.ensures.len, c.reserve-2.ensures.len, c.make_room.ensures.len, c.clear.ensures.len)
