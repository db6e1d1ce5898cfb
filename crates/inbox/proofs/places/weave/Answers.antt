use Rattle.std.proofs.Common.{◌≡◌, ◌+◌, ◌<◌, ◌≤◌, length, take, drop, ℕ, ◌-◌, List, [], ◌∷◌, ◌++◌, cond, is_ok, true, get_or, arith, sym, ap, ◌∙◌, subst}
use Rattle.std.proofs.lemmas.List.{length-drop, take_rest}
use Rattle.inbox.specs.declared.places.Late.{Late}
use Rattle.inbox.specs.steps.Woven.{Rise, woven}
use Rattle.inbox.proofs.WovenLemmas.{read_same, rise_next, rise_more, woven_more, woven_all, rise_le}
use Rattle.inbox.proofs.places.weave.Goals as goal

abbrev none : Late
none = record { before = 0; position = 0 }

next : (n m i : ℕ) (late : List Late) → i < length late → Rise n m (drop i late)
    → (n ≤ (get_or late i none).before) × ((get_or late i none).before ≤ m) × Rise (get_or late i none).before m (drop (i + 1) late)
next n m i late within rise =
    let rest = rise_next n m i late (get_or late i none) within (read_same late i none (get_or late i none) within) rise in
    (rest.0, rise_le _ m _ rest.1, rest.1)

pub push_to-requires-clause-high : goal.push_to-requires-clause-high
push_to-requires-clause-high c = (next c.loop-i.from (length c.args.settled.now) c.loop-i.i c.args.late.now c.loop-i-test.true c.loop-i.invariant.rest).1

pub push_to-requires-clause-room : goal.push_to-requires-clause-room
push_to-requires-clause-room c =
    let here = next c.loop-i.from (length c.args.settled.now) c.loop-i.i c.args.late.now c.loop-i-test.true c.loop-i.invariant.rest in
    omega (arith, here.0, here.1, c.loop-i.invariant.len, c.loop-i.invariant.room, c.loop-i-test.true)

pub loop-i-preserved : goal.loop-i-preserved
loop-i-preserved c =
    let late : List Late = c.args.late.now in
    let l : Late = get_or late c.loop-i.i none in
    let same : l ≡ get_or late c.loop-i.i l = read_same late c.loop-i.i none l c.loop-i-test.true in
    let here = next c.loop-i.from (length c.args.settled.now) c.loop-i.i late c.loop-i-test.true c.loop-i.invariant.rest in
    record {
      woven = c.push_to.ensures.items
          ∙ ap (λ w. w ++ (take (l.before - c.loop-i.from) (drop c.loop-i.from c.args.settled.now) ++ l.position ∷ [])) c.loop-i.invariant.woven
          ∙ sym (woven_more c.loop-i.from c.loop-i.i c.args.settled.now late l c.loop-i-test.true same here.0 c.loop-i.invariant.first);
      first = rise_more 0 c.loop-i.from c.loop-i.i late l c.loop-i-test.true same c.loop-i.invariant.first here.0;
      rest = here.2;
      within = here.1;
      len = omega (arith, here.0, c.loop-i.invariant.len, c.push_to.ensures.len);
      room = omega (arith, c.push_to.ensures.capacity, c.loop-i.invariant.room);
      grown = omega (arith, c.push_to.ensures.capacity, c.loop-i.invariant.grown);
    }

pub returns-clause-woven : goal.returns-clause-woven
returns-clause-woven c =
    let late : List Late = c.args.late.now in
    let settled : List ℕ = c.args.settled.now in
    let last : c.loop-i.i ≡ length late = omega (arith, c.loop-i-test.false, c.loop-i.auto.i-end) in
    let rest : length (drop c.loop-i.from settled) ≡ length settled - c.loop-i.from = length-drop c.loop-i.from settled in
    let pushed : is_ok c.extend_from_slice.result ≡ true = c.extend_from_slice.ensures.succeeds (omega (arith, last, rest, c.loop-i.invariant.len, c.loop-i.invariant.room, c.loop-i.invariant.within)) in
    c.extend_from_slice.ensures.items
    ∙ ap (λ w. cond (is_ok c.extend_from_slice.result) (c.loop-i.all.items ++ w) c.loop-i.all.items) (take_rest settled c.loop-i.from)
    ∙ ap (λ b. cond b (c.loop-i.all.items ++ drop c.loop-i.from settled) c.loop-i.all.items) pushed
    ∙ ap (λ w. w ++ drop c.loop-i.from settled) (c.loop-i.invariant.woven ∙ ap (λ i. woven 0 (take c.loop-i.from settled) (take i late)) last)
    ∙ sym (woven_all c.loop-i.from settled late (subst (λ i. Rise 0 c.loop-i.from (take i late)) last c.loop-i.invariant.first) c.loop-i.invariant.within)
