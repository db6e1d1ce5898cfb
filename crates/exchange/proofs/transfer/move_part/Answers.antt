use Rattle.std.proofs.Common.{◌≡◌, ◌≤◌, length, take, drop, min, sym, ap, ◌∙◌, arith}
use Rattle.std.proofs.lemmas.List.{drop_min, length-take, nil_from_length, take-take}
use Rattle.inbox.specs.KeyOrder.{key_cmp}
use Rattle.inbox.specs.Ordered.{append_new}
use Rattle.inbox.specs.Sets.{set_of, union}
use Rattle.site.specs.Delta.{lacking_of}
use Rattle.exchange.proofs.TransferLemmas.{take_counted}
use Rattle.exchange.proofs.transfer.move_part.Goals as goal

pub returns-in-Ok-take_batch : goal.returns-in-Ok-take_batch
returns-in-Ok-take_batch c =
    let part = c.in-Ok.ensures.part in
    let D = lacking_of (set_of c.args.from.now) c.args.peer.now (drop c.args.place (set_of c.args.from.now)) in
    let taken = take_counted D c.in-Ok.part.events 100 c.len-count.result part.events c.len-count.ensures in
    let n : c.len-count.result ≡ min 100 (length D) = c.len-count.ensures ∙ ap length part.events ∙ length-take 100 D in
    record {
      arrivals = c.in-Ok-take_batch.ensures.arrivals ∙ ap (append_new key_cmp c.args.to.now) taken;
      set = c.in-Ok-take_batch.ensures.set ∙ ap (union (set_of c.args.to.now)) taken;
      all = λ none. nil_from_length D (omega (arith, none, n));
      rest = part.rest ∙ sym (ap (λ k. drop k D) n ∙ drop_min 100 D);
      within = part.within;
      behind = omega (arith, part.behind, c.len-count.ensures);
      counted = omega (arith, n);
      short = tt;
      short_set = tt;
      short_taken = tt;
    }

pub returns : goal.returns
returns c =
    let part = c.in-Ok.ensures.part in
    let D = lacking_of (set_of c.args.from.now) c.args.peer.now (drop c.args.place (set_of c.args.from.now)) in
    let t = c.in-Err.short.taken in
    let few : t ≤ 100 = omega (arith, c.in-Err.ensures.short_taken, ap length part.events, length-take 100 D) in
    let taken = ap (take t) part.events ∙ take-take t 100 D few in
    record {
      arrivals = tt;
      set = tt;
      all = tt;
      rest = tt;
      within = tt;
      behind = tt;
      counted = tt;
      short = c.in-Err.ensures.short ∙ ap (append_new key_cmp c.args.to.now) taken;
      short_set = c.in-Err.ensures.short_set ∙ ap (union (set_of c.args.to.now)) taken;
      short_taken = omega (arith, c.in-Err.ensures.short_taken, ap length part.events, length-take 100 D);
    }
