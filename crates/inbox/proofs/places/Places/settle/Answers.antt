use Rattle.std.proofs.Common.{◌≡◌, ◌+◌, ◌<◌, length, min, ◌-◌, List, arith, sym, ap, subst}
use Rattle.std.specs.Vec.{vec_capacity, vec_len}
use Rattle.inbox.specs.declared.places.Late.{Late}
use Rattle.inbox.specs.steps.Woven.{Rise}
use Rattle.inbox.proofs.places.Places.settle.Goals as goal

pub invariant_of-self : goal.invariant_of-self
invariant_of-self c =
    let len : vec_len c.swap.new.x ≡ vec_len c.weave.new.all = ap (λ v. vec_len v) c.swap.ensures.x_after in
    let room : vec_capacity c.swap.new.x ≡ vec_capacity c.weave.new.all = ap (λ v. vec_capacity v) c.swap.ensures.x_after in
    let other : vec_capacity c.swap.new.y ≡ vec_capacity c.self.inside.settled = ap (λ v. vec_capacity v) c.swap.ensures.y_after in
    let old = c.self.invariant.1 in
    let room_is : min (vec_capacity c.self.inside.settled) (vec_capacity c.self.inside.other) - (vec_len c.self.inside.settled + vec_len c.self.inside.late) ≡ c.args.self.now.room = ap (λ v. v.room) c.self.view_is in
    let kept : 0 < vec_capacity c.self.inside.late = old.next (omega (arith, room_is, c.requires)) in (
      subst (λ (q : List Late). Rise 0 (length c.swap.new.x.items) q) (sym c.clear-2.ensures.items) (omega arith),
      record {
        fits = omega (arith, len, room, c.weave.ensures.len, c.weave.ensures.capacity, c.clear.ensures.capacity, c.clear-2.ensures.len, old.fits_other, c.self.inside.settled.ok.0, c.self.inside.late.ok.0);
        fits_other = omega (arith, len, other, c.weave.ensures.len, c.clear-2.ensures.len, old.fits, c.self.inside.settled.ok.0, c.self.inside.late.ok.0);
        next = λ h. omega (arith, room_is, c.requires, kept, c.clear-2.ensures.capacity);
      },
    )
