use Rattle.std.proofs.Common.{◌≡◌, ◌+◌, ◌-◌, [], ◌∷◌, ◌++◌, ℕ, List, length, true, false, min, sym, ap, ◌∙◌, subst, arith, is_ok, refl}
use Rattle.std.specs.Bool.{if◌then◌else◌}
use Rattle.std.specs.List.{insert}
use Rattle.std.specs.Vec.{vec_capacity, vec_len}
use Rattle.attributes.specs.Event.{EventValue}
use Rattle.attributes.specs.Fault.{IsEvent}
use Rattle.inbox.specs.KeyOrder.{key_cmp}
use Rattle.inbox.specs.Sets.{AreEvents, set_of}
use Rattle.inbox.specs.Ordered.{has, in_order, IsGapFor}
use Rattle.inbox.specs.steps.Reads.{ReadsInOrder}
use Rattle.inbox.specs.steps.Woven.{order}
use Rattle.inbox.proofs.OrderLemmas.{key_cmp_total}
use Rattle.inbox.proofs.ReadLemmas.{reads_new}
use Rattle.inbox.proofs.SetLemmas.{all_append, in_order-present, in_order-push}
use Rattle.inbox.proofs.inbox.Inbox.put.Goals as goal

pub invariant_of-self : goal.invariant_of-self
invariant_of-self c =
    let A : List EventValue = c.self.inside.arrivals.items in
    let at : ℕ = c.in-Err.gap.before + c.in-Err.gap.late in
    let room : min (vec_capacity c.self.inside.arrivals - vec_len c.self.inside.arrivals) c.self.inside.places.room ≡ c.args.self.now.spare = ap (λ v. v.spare) c.self.view_is in
    let pushed : is_ok c.push.result ≡ true = c.push.ensures.succeeds (omega (arith, room, c.requires)) in
    let arrivals : c.push.new.self.items ≡ A ++ c.args.event ∷ [] = c.push.ensures.items ∙ ap (λ b. if b then A ++ c.args.event ∷ [] else A) pushed in
    let places : order c.insert.new.self ≡ insert (order c.self.inside.places) at (length A) =
    c.insert.ensures.order ∙ ap (λ n. insert (order c.self.inside.places) at n) (c.len-position.ensures ∙ c.self.inside.arrivals.ok.0) in
    let gap : IsGapFor key_cmp (in_order key_cmp A) c.args.event at = subst (λ (q : List EventValue). IsGapFor key_cmp (in_order key_cmp q) c.args.event at) c.deref.ensures.value c.in-Err.ensures.gap in (
      subst (λ (q : List EventValue). ReadsInOrder key_cmp q (order c.insert.new.self)) (sym arrivals)
          (subst (λ ps. ReadsInOrder key_cmp (A ++ c.args.event ∷ []) ps) (sym places) (reads_new key_cmp_total _ _ _ _ c.self.invariant.0 gap)),
      subst AreEvents (sym arrivals) (all_append IsEvent A (c.args.event ∷ []) c.self.invariant.1 (c.find.ensures.event, tt)),
    )

pub returns-in-Err-clause-arrivals : goal.returns-in-Err-clause-arrivals
returns-in-Err-clause-arrivals c =
    let A : List EventValue = c.self.inside.arrivals.items in
    let room : min (vec_capacity c.self.inside.arrivals - vec_len c.self.inside.arrivals) c.self.inside.places.room ≡ c.args.self.now.spare = ap (λ v. v.spare) c.self.view_is in
    let pushed : is_ok c.push.result ≡ true = c.push.ensures.succeeds (omega (arith, room, c.requires)) in
    let fresh : has key_cmp c.args.self.now.arrivals c.args.event ≡ false =
    ap (λ (q : List EventValue). has key_cmp q c.args.event) (sym (c.deref.ensures.value ∙ ap (λ v. v.arrivals) c.self.view_is)) ∙ sym c.in-Err.ensures.known in
    rw fresh (c.push.ensures.items ∙ ap (λ b. if b then A ++ c.args.event ∷ [] else A) pushed ∙ ap (λ v. v.arrivals ++ c.args.event ∷ []) c.self.view_is)

pub returns-in-Err-clause-set : goal.returns-in-Err-clause-set
returns-in-Err-clause-set c =
    let A : List EventValue = c.self.inside.arrivals.items in
    let room : min (vec_capacity c.self.inside.arrivals - vec_len c.self.inside.arrivals) c.self.inside.places.room ≡ c.args.self.now.spare = ap (λ v. v.spare) c.self.view_is in
    let pushed : is_ok c.push.result ≡ true = c.push.ensures.succeeds (omega (arith, room, c.requires)) in
    ap set_of (c.push.ensures.items ∙ ap (λ b. if b then A ++ c.args.event ∷ [] else A) pushed ∙ ap (λ v. v.arrivals ++ c.args.event ∷ []) c.self.view_is)
    ∙ in_order-push key_cmp_total c.args.self.now.arrivals c.args.event

pub returns-in-Err-clause-answer : goal.returns-in-Err-clause-answer
returns-in-Err-clause-answer c =
    let fresh : has key_cmp c.args.self.now.arrivals c.args.event ≡ false =
    ap (λ (q : List EventValue). has key_cmp q c.args.event) (sym (c.deref.ensures.value ∙ ap (λ v. v.arrivals) c.self.view_is)) ∙ sym c.in-Err.ensures.known in
    rw fresh refl

pub returns-in-Ok-clause-set : goal.returns-in-Ok-clause-set
returns-in-Ok-clause-set c =
    let there : has key_cmp c.args.self.now.arrivals c.args.event ≡ true =
    ap (λ (q : List EventValue). has key_cmp q c.args.event) (sym (c.deref.ensures.value ∙ ap (λ v. v.arrivals) c.self.view_is)) ∙ sym c.in-Ok.ensures.known in
    sym (in_order-present key_cmp_total c.args.self.now.arrivals c.args.event there)
