use Rattle.std.proofs.Common.{◌≡◌, [], ◌∷◌, length, take, sym, ap, ◌∙◌, arith}
use Rattle.inbox.specs.KeyOrder.{key_cmp}
use Rattle.inbox.proofs.OrderLemmas.{key_cmp_total}
use Rattle.inbox.specs.Ordered.{append_new}
use Rattle.inbox.specs.Kept.{events}
use Rattle.inbox.specs.Sets.{set_of}
use Rattle.inbox.proofs.SetLemmas.{append_new-append, in_order-append_new, length-append_new}
use Rattle.std.proofs.lemmas.List.{take_all}
use Rattle.inbox.proofs.ReadLemmas.{take_next}
use Rattle.inbox.proofs.inbox.Inbox.merge.Goals as goal

pub loop-i-preserved : goal.loop-i-preserved
loop-i-preserved c =
    let next = take_next (events c.args.other.now) c.loop-i.i c.at.result.now c.at.ensures in
    let taken : c.take_copy.new.self.arrivals ≡ append_new key_cmp c.loop-i.self.arrivals (c.at.result.now ∷ []) = c.in-Ok.ensures.ok in
    let bounds = length-append_new key_cmp c.loop-i.self.arrivals (c.at.result.now ∷ []) in
    let same = ap length taken in
    record {
      arrivals = taken ∙ ap (λ A. append_new key_cmp A (c.at.result.now ∷ [])) c.loop-i.invariant.arrivals ∙ sym (ap (append_new key_cmp c.args.self.now.arrivals) next ∙ append_new-append key_cmp_total c.args.self.now.arrivals (take c.loop-i.i (events c.args.other.now)) (c.at.result.now ∷ []));
      no_fewer = omega (arith, same, bounds.0, c.loop-i.invariant.no_fewer);
      no_more = omega (arith, same, bounds.1, c.loop-i.invariant.no_more);
    }

pub returns-in_default-clause-short_set : goal.returns-in_default-clause-short_set
returns-in_default-clause-short_set c =
    ap set_of (c.in_default.ensures.same ∙ c.loop-i.invariant.arrivals) ∙ in_order-append_new key_cmp_total c.args.self.now.arrivals (take c.loop-i.i (events c.args.other.now))

pub returns-clause-set : goal.returns-clause-set
returns-clause-set c =
    let all = take_all c.loop-i.i (events c.args.other.now) (omega (arith, c.loop-i-test.false, c.len-i-end.ensures)) in
    ap set_of (c.loop-i.invariant.arrivals ∙ ap (append_new key_cmp c.args.self.now.arrivals) all) ∙ in_order-append_new key_cmp_total c.args.self.now.arrivals (events c.args.other.now)
