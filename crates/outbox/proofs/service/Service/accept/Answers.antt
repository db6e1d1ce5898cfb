use Rattle.std.proofs.Common.{◌≡◌, ◌+◌, ◌≤◌, suc, Err, Ok, ◌∙◌, ap, refl, arith, subst, IsUtf8}
use Rattle.sqlite.specs.State.{HasCleanDisk, Survives}
use Rattle.sqlite.specs.Held.{state}
use Rattle.outbox.specs.Order.{Accepted}
use Rattle.outbox.specs.Row.{row_event}
use Rattle.sqlite.specs.Effect.{Database}
use Rattle.outbox.specs.Call.{CommandCall, CommandEffect, IsSettled}
use Rattle.outbox.specs.Shown.{Shown}
use Rattle.outbox.specs.steps.Change.{AddsCommand, MayAdd}
use Rattle.outbox.proofs.ServiceLemmas.{commanded, counted, effect_done, effect_failed, effect_left, of_store_not_foreign, stands_after, stands_back, stands_same, store_or_memory}
use Rattle.outbox.proofs.CountLemmas.{counts_after, keeps_back, keeps_same}
use Rattle.outbox.proofs.service.Service.accept.Goals as goal

pub invariant_of-self-in-Err-event : goal.invariant_of-self-in-Err-event
invariant_of-self-in-Err-event g c =
    let old = state g.S.Store c.self.inside.conn in
    let mid = state g.S.Store c.decide.new.conn in
    let it = c.self.invariant.0 in (
      record {
        filled = it.filled;
        short = it.short;
        low = it.low;
        high = it.high;
        stands = λ clean still. stands_same old mid c.self.inside.source c.self.inside.base c.self.inside.last it.stands c.decide.ensures.same clean still;
      },
      keeps_same old mid c.self.inside.source c.self.inside.base c.self.inside.last c.self.inside.orders it.stands c.decide.ensures.same c.self.invariant.1,
    )

pub invariant_of-self-2 : goal.invariant_of-self-2
invariant_of-self-2 g c =
    let old = state g.S.Store c.self.inside.conn in
    let mid = state g.S.Store c.decide.new.conn in
    let new = state g.S.Store c.write.new.conn in
    let it = c.self.invariant.0 in (
      record {
        filled = it.filled;
        short = it.short;
        low = omega (arith, it.low);
        high = omega (arith, c.in-Ok.ensures.room);
        stands = λ clean still.
            let clean_mid : HasCleanDisk mid = omega (arith, c.write.ensures.crash.clean, clean) in
            let stays = c.in-Ok-write.ensures.stays clean in
            let made : Accepted = record { status = c.args.status; order = c.args.order; at = c.args.at.now } in
            let adds : AddsCommand (c.self.inside.last + 1) made mid.now new.now = rw c.as_str-3.ensures at (c.in-Ok-write.ensures.added clean) in
            stands_after old mid new c.self.inside.source c.self.inside.base c.self.inside.last (c.self.inside.last + 1) made (commanded c.args.status c.args.order c.args.at.now c.day-day.result c.requires.order (subst IsUtf8 c.as_str-3.ensures c.as_str-3.utf8) c.requires.short c.day-day.ensures) refl c.decide.ensures.same clean_mid stays.1 it.stands (c.in-Ok.ensures.accepted clean_mid) adds;
      },
      record {
        few = (let e : c.self.inside.base + (c.self.inside.orders + c.placed.result) ≤ c.self.inside.last + 1 = omega (arith, c.self.invariant.1.few, c.placed.ensures.few) in e);
        exact = λ clean still.
            let clean_mid : HasCleanDisk mid = omega (arith, c.write.ensures.crash.clean, clean) in
            let stays = c.in-Ok-write.ensures.stays clean in
            let made : Accepted = record { status = c.args.status; order = c.args.order; at = c.args.at.now } in
            let adds : AddsCommand (c.self.inside.last + 1) made mid.now new.now = rw c.as_str-3.ensures at (c.in-Ok-write.ensures.added clean) in
            counts_after old mid new c.self.inside.source c.self.inside.base c.self.inside.last (c.self.inside.last + 1) c.self.inside.orders c.placed.result made (commanded c.args.status c.args.order c.args.at.now c.day-day.result c.requires.order (subst IsUtf8 c.as_str-3.ensures c.as_str-3.utf8) c.requires.short c.day-day.ensures) refl c.decide.ensures.same clean_mid stays.1 it.stands (c.in-Ok.ensures.accepted clean_mid) adds (c.placed.ensures.placed c.args.order) c.self.invariant.1;
      },
    )

pub invariant_of-self-in-Err-write : goal.invariant_of-self-in-Err-write
invariant_of-self-in-Err-write g c =
    let old = state g.S.Store c.self.inside.conn in
    let mid = state g.S.Store c.decide.new.conn in
    let new = state g.S.Store c.write.new.conn in
    let it = c.self.invariant.0 in (
      record {
        filled = it.filled;
        short = it.short;
        low = it.low;
        high = it.high;
        stands = λ clean still.
            let clean_mid : HasCleanDisk mid = omega (arith, c.write.ensures.crash.clean, clean) in
            stands_back old mid new c.self.inside.source c.self.inside.base c.self.inside.last it.stands c.decide.ensures.same clean_mid (c.write.ensures.was_open clean still) (c.in-Err-write.ensures.same clean still).0;
      },
      keeps_back old mid new c.self.inside.source c.self.inside.base c.self.inside.last c.self.inside.orders it.stands c.decide.ensures.same
          (λ clean. let e : HasCleanDisk mid = omega (arith, c.write.ensures.crash.clean, clean) in e)
          (λ clean still. (c.write.ensures.was_open clean still, (c.in-Err-write.ensures.same clean still).0)) c.self.invariant.1,
    )

pub returns-in-Err-clause-effect : goal.returns-in-Err-clause-effect
returns-in-Err-clause-effect g c clean =
    let old = state g.S.Store c.self.inside.conn in
    let mid = state g.S.Store c.decide.new.conn in
    let it : Accepted = record { status = c.args.status; order = c.args.order; at = c.args.at.now } in
    let was : Shown _ = record { conn = c.self.inside.conn; source = c.self.inside.source; base = c.self.inside.base; last = c.self.inside.last } in
    subst (λ (v : Shown _). CommandEffect it v (state g.S.Store v.conn) mid (Err c.in-Err.fault)) c.self.view_is
    (effect_left it was old mid c.self.invariant.0.stands c.decide.ensures.same c.decide.ensures.crash clean c.in-Err.fault
    (λ still no_memory no_store commands box. c.in-Err.ensures.refused clean no_memory no_store was.source was.base commands
    (counted old mid was.source was.base was.last c.self.invariant.0.stands c.decide.ensures.same clean still commands box) box))

pub returns-in-Err-event-clause-effect : goal.returns-in-Err-event-clause-effect
returns-in-Err-event-clause-effect g c clean =
    let old = state g.S.Store c.self.inside.conn in
    let mid = state g.S.Store c.decide.new.conn in
    let it : Accepted = record { status = c.args.status; order = c.args.order; at = c.args.at.now } in
    let was : Shown _ = record { conn = c.self.inside.conn; source = c.self.inside.source; base = c.self.inside.base; last = c.self.inside.last } in
    subst (λ (v : Shown _). CommandEffect it v (state g.S.Store v.conn) mid (Err c.in-Err-event.fault)) c.self.view_is
    (effect_left it was old mid c.self.invariant.0.stands c.decide.ensures.same c.decide.ensures.crash clean c.in-Err-event.fault (λ still no_memory no_store. absurd (store_or_memory c.in-Err-event.fault c.in-Err-event.ensures.fault no_memory no_store)))

pub returns-in-Err-write-clause-call : goal.returns-in-Err-write-clause-call
returns-in-Err-write-clause-call g c =
    let it : Accepted = record { status = c.args.status; order = c.args.order; at = c.args.at.now } in
    subst (λ (v : Shown _). CommandCall it v (record { conn = c.write.new.conn; source = c.self.inside.source; base = c.self.inside.base; last = c.self.inside.last }) (Err c.from.result)) c.self.view_is
    (record { kept = (refl, refl); next = tt; counted = tt; back = refl; fault = λ is. of_store_not_foreign c.from.result c.from.ensures is })

pub returns-in-Err-write-clause-effect : goal.returns-in-Err-write-clause-effect
returns-in-Err-write-clause-effect g c clean =
    let old = state g.S.Store c.self.inside.conn in
    let mid = state g.S.Store c.decide.new.conn in
    let new = state g.S.Store c.write.new.conn in
    let it : Accepted = record { status = c.args.status; order = c.args.order; at = c.args.at.now } in
    let was : Shown _ = record { conn = c.self.inside.conn; source = c.self.inside.source; base = c.self.inside.base; last = c.self.inside.last } in
    let clean_mid : HasCleanDisk mid = omega (arith, c.write.ensures.crash.clean, clean) in
    let survives : Survives mid new (MayAdd (c.self.inside.last + 1) it mid) = rw c.as_str-3.ensures at c.write.ensures.crash in
    subst (λ (v : Shown _). CommandEffect it v (state g.S.Store v.conn) new (Err c.from.result)) c.self.view_is
    (effect_failed it was old mid c.self.invariant.0.stands c.decide.ensures.same c.decide.ensures.crash clean_mid (c.in-Ok.ensures.open clean_mid) (c.self.inside.last + 1)
    (commanded c.args.status c.args.order c.args.at.now c.day-day.result c.requires.order (subst IsUtf8 c.as_str-3.ensures c.as_str-3.utf8) c.requires.short c.day-day.ensures) refl (c.in-Ok.ensures.accepted clean_mid) new survives c.from.result c.from.ensures clean
    (λ still. (c.in-Err-write.ensures.same clean still).0))

pub returns-clause-call : goal.returns-clause-call
returns-clause-call g c =
    let it : Accepted = record { status = c.args.status; order = c.args.order; at = c.args.at.now } in
    let event : c.in-Ok-event.event ≡ row_event c.self.inside.source (c.self.inside.last + 1) it = rw (c.as_str.ensures, c.as_str-2.ensures) at c.in-Ok-event.ensures.event in
    let one : c.self.inside.last + 1 ≡ suc c.self.inside.last = omega arith in
    subst (λ (v : Shown _). CommandCall it v (record { conn = c.write.new.conn; source = c.self.inside.source; base = c.self.inside.base; last = c.self.inside.last + 1 }) (Ok c.in-Ok-event.event)) c.self.view_is
    (record { kept = (refl, refl); next = (c.in-Ok.ensures.room, event ∙ ap (λ n. row_event c.self.inside.source n it) one); counted = one; back = tt; fault = tt })

pub returns-clause-effect : goal.returns-clause-effect
returns-clause-effect g c clean =
    let old = state g.S.Store c.self.inside.conn in
    let mid = state g.S.Store c.decide.new.conn in
    let new = state g.S.Store c.write.new.conn in
    let it : Accepted = record { status = c.args.status; order = c.args.order; at = c.args.at.now } in
    let was : Shown _ = record { conn = c.self.inside.conn; source = c.self.inside.source; base = c.self.inside.base; last = c.self.inside.last } in
    let clean_mid : HasCleanDisk mid = omega (arith, c.write.ensures.crash.clean, clean) in
    let survives : Survives mid new (MayAdd (c.self.inside.last + 1) it mid) = rw c.as_str-3.ensures at c.write.ensures.crash in
    let adds : AddsCommand (c.self.inside.last + 1) it mid.now new.now = rw c.as_str-3.ensures at (c.in-Ok-write.ensures.added clean) in
    let event : c.in-Ok-event.event ≡ row_event c.self.inside.source (c.self.inside.last + 1) it = rw (c.as_str.ensures, c.as_str-2.ensures) at c.in-Ok-event.ensures.event in
    let settled : IsSettled new = λ still db leaves. g.met.S.Store.settled c.write.new.conn.store db still leaves ∙ ap (λ (d : Database). d.trees) (c.in-Ok-write.ensures.committed clean) in
    subst (λ (v : Shown _). CommandEffect it v (state g.S.Store v.conn) new (Ok c.in-Ok-event.event)) c.self.view_is
    (effect_done it was old mid c.self.invariant.0.stands c.decide.ensures.same c.decide.ensures.crash clean_mid (c.in-Ok.ensures.open clean_mid) (c.self.inside.last + 1)
    (commanded c.args.status c.args.order c.args.at.now c.day-day.result c.requires.order (subst IsUtf8 c.as_str-3.ensures c.as_str-3.utf8) c.requires.short c.day-day.ensures) refl (c.in-Ok.ensures.accepted clean_mid) new survives c.in-Ok-event.event clean adds
    (c.in-Ok-write.ensures.stays clean).0 settled event)
