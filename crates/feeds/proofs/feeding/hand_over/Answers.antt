use Rattle.std.proofs.Common.{rules, length, [], ◌∷◌, ◌++◌, arith, refl, ap, sym, ◌∙◌, length-append}
use Rattle.feeds.specs.declared.report.WorkerEnd.TheVariants.{OutOfMemory}
use Rattle.feeds.proofs.GateLemmas.{gated_all, gated_end, gated_from, gated_more, gated_none, some_left, same_calls}
use Rattle.feeds.proofs.TallyLemmas.{empty_is, ends, flushes, full, full_stops, goes, goes_length, moves, room, room_behind, still, stops, stops_here}
use Rattle.feeds.proofs.feeding.hand_over.Goals as goal

pub pass_on-requires : goal.pass_on-requires
pass_on-requires g c = let i = c.loop-event.invariant in let next = c.in-Some.ensures.steps.0 in
    let r = room _ _ _ _ _ _ i.4 i.2 in let more = room_behind _ _ _ _ _ next i.2 in omega (arith, r.1, more, c.len-len.ensures, c.len-len.type_inv)

pub returns-in-Err : goal.returns-in-Err
returns-in-Err g c = let i = c.loop-event.invariant in
    (i.1, i.3, stops_here _ _ _ _ _ _ OutOfMemory _ i.2 (still _ _ _ _ _ _ i.4 c.in-Err.ensures) tt refl, gated_end _ _ _ _ i.6 (λ s. absurd (cc)))

pub flush_full-requires-clause-room : goal.flush_full-requires-clause-room
flush_full-requires-clause-room g c = let i = c.loop-event.invariant in let next = c.in-Some.ensures.steps.0 in
    let r = room _ _ _ _ _ _ (goes _ _ _ _ _ _ _ i.4 c.in-Ok.ensures) (moves _ _ _ _ _ next i.2) in omega (arith, r.0, c.len-len.ensures, c.len-len.type_inv)

pub flush_full-requires-clause-most : goal.flush_full-requires-clause-most
flush_full-requires-clause-most g c = let i = c.loop-event.invariant in omega (arith, goes_length _ _ _ _ _ c.in-Ok.ensures, i.5)

pub loop-event-preserved : goal.loop-event-preserved
loop-event-preserved g c = let i = c.loop-event.invariant in let f = c.in-None-flush_full.ensures.flushed in let same = same_calls _ _ _ _ _ c.in-Ok.ensures in let next = c.in-Some.ensures.steps.0 in
    let r = full _ _ _ _ _ _ _ _ refl (goes _ _ _ _ _ _ _ i.4 c.in-Ok.ensures) f.2 in
    (i.0 ++ c.in-Some.event ∷ [], i.1 ++ f.0, moves _ _ _ _ _ next i.2, g.met.D.Desk.goes_on _ _ _ _ _ i.3 f.1, r.0, r.1, gated_more _ _ _ i.1 f.0 _ _ refl i.6 (gated_from _ _ _ _ _ f.3 same), omega (arith, same, i.7, c.in-None-flush_full.ensures.calls refl, goes_length _ _ _ _ _ c.in-Ok.ensures, length-append i.0 (c.in-Some.event ∷ [])))

pub returns-in-Some-flush_full : goal.returns-in-Some-flush_full
returns-in-Some-flush_full g c = let i = c.loop-event.invariant in let f = c.in-Some-flush_full.ensures.flushed in let same = same_calls _ _ _ _ _ c.in-Ok.ensures in let next = c.in-Some.ensures.steps.0 in (
  i.1 ++ f.0,
  g.met.D.Desk.goes_on _ _ _ _ _ i.3 f.1,
  stops _ _ _ _ _ _ _ _ _ _ _ (moves _ _ _ _ _ next i.2) (goes _ _ _ _ _ _ _ i.4 c.in-Ok.ensures) (full_stops _ _ _ _ _ _ _ refl f.2) refl,
  gated_all _ _ _ _ (gated_more _ _ _ i.1 f.0 _ _ refl i.6 (gated_from _ _ _ _ _ f.3 same)) refl,
)

pub returns-then-is_empty : goal.returns-then-is_empty
returns-then-is_empty g c = let i = c.loop-event.invariant in (i.1, i.3, ends _ _ _ _ _ _ _ i.2 (empty_is _ (sym c.loop-event.event-iterator.rest.ok.0 ∙ c.in-None.ensures.steps.0)) i.4 (search rules) refl, gated_end _ _ _ _ i.6 (λ s. absurd (cc)))

pub flush-requires-clause-room : goal.flush-requires-clause-room
flush-requires-clause-room g c = let i = c.loop-event.invariant in let r = room _ _ _ _ _ _ i.4 i.2 in omega (arith, r.0, c.len-len.ensures, c.len-len.type_inv)

pub returns-in-None-flush : goal.returns-in-None-flush
returns-in-None-flush g c = let i = c.loop-event.invariant in let f = c.in-None-flush.ensures.flushed in
    (i.1 ++ f.0, g.met.D.Desk.goes_on _ _ _ _ _ i.3 f.1, ends _ _ _ _ _ _ _ i.2 (empty_is _ (sym c.loop-event.event-iterator.rest.ok.0 ∙ c.in-None.ensures.steps.0)) (flushes _ _ _ _ _ _ _ i.4 f.2) (ap length (f.2.whole refl).1) refl, gated_end _ _ _ _ (gated_more _ _ _ i.1 f.0 _ _ refl i.6 f.3) (λ s. absurd (cc)))

pub returns : goal.returns
returns g c = let i = c.loop-event.invariant in let f = c.in-Some-flush.ensures.flushed in
    (i.1 ++ f.0, g.met.D.Desk.goes_on _ _ _ _ _ i.3 f.1, stops _ _ _ _ _ _ _ _ _ _ _ i.2 i.4 f.2 refl, gated_all _ _ _ _ (gated_more _ _ _ i.1 f.0 _ _ refl i.6 f.3) refl)

pub loop-event-init : goal.loop-event-init
loop-event-init g c = ([], [], search rules, g.met.D.Desk.stays _, search rules, search rules, gated_none _ _ _ (ap (λ z. z.calls) c.requires.start) (λ s. absurd (cc)), search rules)

pub flush_full-requires-clause-few : goal.flush_full-requires-clause-few
flush_full-requires-clause-few g c = let i = c.loop-event.invariant in let next = c.in-Some.ensures.steps.0 in let same = same_calls _ _ _ _ _ c.in-Ok.ensures in
    omega (arith, i.7, same, room_behind _ _ _ _ _ next i.2, c.len-len.ensures, c.len-len.type_inv)

pub flush-requires-clause-few : goal.flush-requires-clause-few
flush-requires-clause-few g c = let i = c.loop-event.invariant in let some = some_left _ (λ none. c.if-is_empty.ensures.1 none) in
    omega (arith, i.7, some, ap length i.2, length-append i.0 c.loop-event.event-iterator.rest.items, c.len-len.ensures, c.len-len.type_inv)
