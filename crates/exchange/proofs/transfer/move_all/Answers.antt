use Rattle.std.proofs.Common.{◌≡◌, ◌≤◌, [], length, take, drop, sym, ap, ◌∙◌, arith}
use Rattle.std.proofs.lemmas.List.{drop_all, drop-drop, length-drop, length-take, take_all}
use Rattle.inbox.specs.KeyOrder.{key_cmp}
use Rattle.inbox.specs.Ordered.{append_new}
use Rattle.inbox.specs.Sets.{set_of, union}
use Rattle.site.specs.Delta.{delta, is_lacking, lacking_of}
use Rattle.exchange.proofs.TransferLemmas.{arrivals_on, length-append_new, length-filter, set_on}
use Rattle.exchange.proofs.transfer.move_all.Goals as goal

pub loop-place-preserved : goal.loop-place-preserved
loop-place-preserved c =
    let E = set_of c.args.from.now in
    let peer = c.args.peer.now in
    let all = delta E peer in
    let M = lacking_of E peer (drop c.loop-place.place E) in
    let A = c.args.to.now in
    let rest = c.loop-place.invariant.rest in
    let n = c.in-Ok.moved.count in
    let bounds = length-append_new key_cmp c.loop-place.to (take n M) in
    let same = ap length c.in-Ok.ensures.arrivals in
    record {
      place_in = c.in-Ok.ensures.within;
      taken_in = omega (arith, c.loop-place.invariant.taken_in, c.in-Ok.ensures.behind);
      counted = omega (arith, c.in-Ok.ensures.counted, ap length rest, length-drop c.loop-place.taken all, c.loop-place.invariant.counted);
      arrivals = arrivals_on key_cmp A c.loop-place.to all M c.loop-place.taken n c.move_part.new.to c.loop-place.invariant.arrivals rest c.in-Ok.ensures.arrivals;
      set = set_on key_cmp (set_of A) (set_of c.loop-place.to) all M c.loop-place.taken n (set_of c.move_part.new.to) c.loop-place.invariant.set rest c.in-Ok.ensures.set;
      rest = c.in-Ok.ensures.rest ∙ ap (drop n) rest ∙ drop-drop n c.loop-place.taken all;
      no_fewer = omega (arith, same, bounds.0, c.loop-place.invariant.no_fewer);
      no_more = omega (arith, same, bounds.1, length-take n M, c.loop-place.invariant.no_more);
    }

pub overflow_sub-fresh : goal.overflow_sub-fresh
overflow_sub-fresh c =
    let E = set_of c.args.from.now in
    let peer = c.args.peer.now in
    let all = delta E peer in
    let M = lacking_of E peer (drop c.loop-place.place E) in
    let A = c.args.to.now in
    let rest = c.loop-place.invariant.rest in
    let bounds = length-append_new key_cmp c.loop-place.to (take c.in-Err.part M) in
    omega (arith, ap length c.in-Err.ensures.short, bounds.0, c.loop-place.invariant.no_fewer, c.arrived-before.ensures.count, c.arrived.ensures.count)

pub overflow_add-taken-in-Err : goal.overflow_add-taken-in-Err
overflow_add-taken-in-Err c =
    let E = set_of c.args.from.now in
    let peer = c.args.peer.now in
    let all = delta E peer in
    let M = lacking_of E peer (drop c.loop-place.place E) in
    let A = c.args.to.now in
    let rest = c.loop-place.invariant.rest in
    omega (arith, c.in-Err.ensures.short_taken, ap length rest, length-drop c.loop-place.taken all, c.loop-place.invariant.counted, length-filter (is_lacking E peer) E, c.len-len.ensures, c.len-len.type_inv)

pub returns-in-Err-clause-brings : goal.returns-in-Err-clause-brings
returns-in-Err-clause-brings c =
    let all = delta (set_of c.args.from.now) c.args.peer.now in
    let M = lacking_of (set_of c.args.from.now) c.args.peer.now (drop c.loop-place.place (set_of c.args.from.now)) in
    let rest = c.loop-place.invariant.rest in
    let bounds = length-append_new key_cmp c.loop-place.to (take c.in-Err.part M) in
    record {
      arrivals = tt;
      set = tt;
      fresh = tt;
      repeated = tt;
      short = arrivals_on key_cmp c.args.to.now c.loop-place.to all M c.loop-place.taken c.in-Err.part c.move_part.new.to c.loop-place.invariant.arrivals rest c.in-Err.ensures.short;
      short_set = set_on key_cmp (set_of c.args.to.now) (set_of c.loop-place.to) all M c.loop-place.taken c.in-Err.part (set_of c.move_part.new.to) c.loop-place.invariant.set rest c.in-Err.ensures.short_set;
      short_fresh = omega (arith, ap length c.in-Err.ensures.short, bounds.0, c.loop-place.invariant.no_fewer, c.arrived-before.ensures.count, c.arrived.ensures.count);
    }

pub returns-clause-brings : goal.returns-clause-brings
returns-clause-brings c =
    let E = set_of c.args.from.now in
    let all = delta E c.args.peer.now in
    let none : lacking_of E c.args.peer.now (drop c.loop-place.place E) ≡ [] = ap (lacking_of E c.args.peer.now) (drop_all c.loop-place.place E (omega (arith, c.loop-place-test.false, c.len-len.ensures))) in
    let done : length all ≤ c.loop-place.taken = omega (arith, ap length (sym c.loop-place.invariant.rest ∙ none), length-drop c.loop-place.taken all) in
    record {
      arrivals = c.loop-place.invariant.arrivals ∙ ap (append_new key_cmp c.args.to.now) (take_all c.loop-place.taken all done);
      set = c.loop-place.invariant.set ∙ ap (union (set_of c.args.to.now)) (take_all c.loop-place.taken all done);
      fresh = omega (arith, c.loop-place.invariant.no_fewer, c.arrived-before.ensures.count, c.arrived-2.ensures.count);
      repeated = omega (arith, done, c.loop-place.invariant.counted, c.loop-place.invariant.no_fewer, c.loop-place.invariant.no_more, c.arrived-before.ensures.count, c.arrived-2.ensures.count);
      short = tt;
      short_set = tt;
      short_fresh = tt;
    }
