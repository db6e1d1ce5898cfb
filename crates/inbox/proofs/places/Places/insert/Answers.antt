use Rattle.std.proofs.Common.{◌≡◌, ◌+◌, ◌-◌, ◌<◌, ◌≤◌, [], ◌∷◌, length, List, min, is_ok, true, arith, sym, ap, ◌∙◌, subst}
use Rattle.std.specs.Bool.{if◌then◌else◌}
use Rattle.std.specs.List.{insert}
use Rattle.std.specs.Vec.{vec_capacity, vec_len}
use Rattle.inbox.specs.declared.places.Late.{Late}
use Rattle.inbox.specs.steps.Woven.{Rise, StandsAt, order, woven}
use Rattle.inbox.proofs.WovenLemmas.{length-order, rise_le, rise_insert, woven_insert}
use Rattle.inbox.proofs.places.Places.insert.Goals as goal

pub overflow_add-before : goal.overflow_add-before
overflow_add-before c =
    let gap = subst (λ p. StandsAt p c.args.before c.args.late) (sym c.self.view_is) c.requires.gap in
    let high : c.args.before ≤ length c.self.inside.settled.items = rise_le _ _ _ gap.rest in
    omega (arith, high, gap.within, c.self.invariant.1.fits, c.self.inside.settled.small, c.self.inside.settled.ok.0, c.self.inside.late.ok.0)

pub invariant_of-self : goal.invariant_of-self
invariant_of-self c =
    let gap = subst (λ p. StandsAt p c.args.before c.args.late) (sym c.self.view_is) c.requires.gap in
    let inside = c.self-then-len-capacity.inside in
    let room_is : min (vec_capacity inside.settled) (vec_capacity inside.other) - (vec_len inside.settled + vec_len inside.late) ≡ c.settle.new.self.room = ap (λ v. v.room) c.self-then-len-capacity.view_is in
    let none : inside.late.items ≡ [] = ap (λ v. v.late) c.self-then-len-capacity.view_is ∙ c.settle.ensures.late in
    let all : inside.settled.items ≡ order c.args.self.now = ap (λ v. v.settled) c.self-then-len-capacity.view_is ∙ c.settle.ensures.settled in
    let size = length-order c.self.inside.settled.items c.self.inside.late.items c.self.invariant.0 in
    let view = ap (λ p. length (order p)) c.self.view_is in
    let high : c.args.before ≤ length c.self.inside.settled.items = rise_le _ _ _ gap.rest in
    let empty : vec_len inside.late ≡ 0 = inside.late.ok.0 ∙ ap length none in
    let within : vec_len inside.late < vec_capacity inside.late = omega (arith, empty, c.self-then-len-capacity.invariant.1.next (omega (arith, room_is, c.requires.room, c.settle.ensures.room))) in
    let done : is_ok c.insert.result ≡ true = c.insert.ensures.succeeds within in
    let l : Late = record { before = c.args.before + c.args.late; position = c.args.position } in
    let items : c.insert.new.self.items ≡ l ∷ [] =
    c.insert.ensures.items ∙ ap (λ b. if b then insert inside.late.items 0 l else inside.late.items) done ∙ ap (λ (q : List Late). insert q 0 l) none in
    let len : vec_len c.insert.new.self ≡ vec_len inside.late + 1 = c.insert.ensures.len ∙ ap (λ b. if b then vec_len inside.late + 1 else vec_len inside.late) done in (
      subst (λ (q : List Late). Rise 0 (length inside.settled.items) q) (sym items) (omega arith, omega (arith, high, gap.within, size, view, ap length all)),
      record {
        fits = omega (arith, room_is, c.requires.room, c.settle.ensures.room, len);
        fits_other = omega (arith, room_is, c.requires.room, c.settle.ensures.room, len);
        next = λ h. omega (arith, within, c.insert.ensures.capacity);
      },
    )

pub invariant_of-self-else-len-capacity : goal.invariant_of-self-else-len-capacity
invariant_of-self-else-len-capacity c =
    let gap = subst (λ p. StandsAt p c.args.before c.args.late) (sym c.self.view_is) c.requires.gap in
    let room_is : min (vec_capacity c.self.inside.settled) (vec_capacity c.self.inside.other) - (vec_len c.self.inside.settled + vec_len c.self.inside.late) ≡ c.args.self.now.room = ap (λ v. v.room) c.self.view_is in
    let differ : (vec_len c.self.inside.late ≡ vec_capacity c.self.inside.late → ⊥) = λ e. c.if-len-capacity.false (c.len.ensures ∙ e ∙ sym c.capacity.ensures) in
    let within : vec_len c.self.inside.late < vec_capacity c.self.inside.late = grind (arith, differ, c.self.inside.late.ok.1) in
    let done : is_ok c.insert-else-len-capacity.result ≡ true = c.insert-else-len-capacity.ensures.succeeds within in
    let l : Late = record { before = c.args.before; position = c.args.position } in
    let items : c.insert-else-len-capacity.new.self.items ≡ insert c.self.inside.late.items c.args.late l =
    c.insert-else-len-capacity.ensures.items ∙ ap (λ b. if b then insert c.self.inside.late.items c.args.late l else c.self.inside.late.items) done in
    let len : vec_len c.insert-else-len-capacity.new.self ≡ vec_len c.self.inside.late + 1 = c.insert-else-len-capacity.ensures.len ∙ ap (λ b. if b then vec_len c.self.inside.late + 1 else vec_len c.self.inside.late) done in (
      subst (λ (q : List Late). Rise 0 (length c.self.inside.settled.items) q) (sym items) (rise_insert _ _ _ _ _ gap.first gap.rest),
      record {
        fits = omega (arith, room_is, c.requires.room, len);
        fits_other = omega (arith, room_is, c.requires.room, len);
        next = λ h. omega (arith, within, c.insert-else-len-capacity.ensures.capacity);
      },
    )

pub returns-else-len-capacity-clause-order : goal.returns-else-len-capacity-clause-order
returns-else-len-capacity-clause-order c =
    let gap = subst (λ p. StandsAt p c.args.before c.args.late) (sym c.self.view_is) c.requires.gap in
    let room_is : min (vec_capacity c.self.inside.settled) (vec_capacity c.self.inside.other) - (vec_len c.self.inside.settled + vec_len c.self.inside.late) ≡ c.args.self.now.room = ap (λ v. v.room) c.self.view_is in
    let differ : (vec_len c.self.inside.late ≡ vec_capacity c.self.inside.late → ⊥) = λ e. c.if-len-capacity.false (c.len.ensures ∙ e ∙ sym c.capacity.ensures) in
    let within : vec_len c.self.inside.late < vec_capacity c.self.inside.late = grind (arith, differ, c.self.inside.late.ok.1) in
    let done : is_ok c.insert-else-len-capacity.result ≡ true = c.insert-else-len-capacity.ensures.succeeds within in
    let l : Late = record { before = c.args.before; position = c.args.position } in
    let items : c.insert-else-len-capacity.new.self.items ≡ insert c.self.inside.late.items c.args.late l =
    c.insert-else-len-capacity.ensures.items ∙ ap (λ b. if b then insert c.self.inside.late.items c.args.late l else c.self.inside.late.items) done in
    ap (λ (q : List Late). woven 0 c.self.inside.settled.items q) items
    ∙ woven_insert c.args.before c.args.late c.args.position c.self.inside.settled.items c.self.inside.late.items gap.within gap.first gap.rest
    ∙ ap (λ p. insert (order p) (c.args.before + c.args.late) c.args.position) c.self.view_is
