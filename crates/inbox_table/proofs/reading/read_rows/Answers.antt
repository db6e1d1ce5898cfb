use Rattle.std.proofs.Common.{◌∙◌, refl, arith}
use Rattle.sqlite.specs.Held.{state}
use Rattle.sqlite.specs.State.{HasCleanDisk}
use Rattle.sqlite.proofs.StateLemmas.{survives_then}
use Rattle.inbox_table.proofs.ReadLemmas.{read_none, read_on, refuses, survives_none, tells_all}
use Rattle.inbox_table.proofs.reading.read_rows.Goals as goal

pub loop-place-init : goal.loop-place-init
loop-place-init g c =
    let wanted = g.W.Wanted.wanted c.args.wanted.now in
    (refl, survives_none (state g.S.Store c.args.rows.now.conn.now), λ clean. rw c.empty-events.ensures (read_none c.args.version g.S.Store c.args.rows.now.conn.now wanted (c.requires clean)))

pub loop-place-preserved : goal.loop-place-preserved
loop-place-preserved g c =
    let start = c.args.rows.now.conn.now in
    let mid = c.loop-place.rows.conn.now in
    let last = c.next_event.new.rows.conn.now in
    let wanted = g.W.Wanted.wanted c.args.wanted.now in (
      c.next_event.ensures.same_reference ∙ c.loop-place.invariant.0,
      survives_then (state g.S.Store start) (state g.S.Store mid) (state g.S.Store last) _ _ _ (λ _ db none. none) (λ _ db none. none) c.loop-place.invariant.1 c.next_event.ensures.survives,
      λ clean.
          let clean_mid : HasCleanDisk (state g.S.Store mid) = omega (arith, c.next_event.ensures.survives.clean, clean) in
          read_on c.args.version g.S.Store start wanted mid last c.loop-place.place c.loop-place.events c.keep_if.new.events c.in-Some.event (c.loop-place.invariant.2 clean_mid) (rw c.in-Some.is at (c.in-Ok.ensures.event clean)) (c.in-Ok.ensures.unchanged clean)
          c.in_ok-keep_if.ensures.kept,
    )

pub returns-in-Err-clause-foreign : goal.returns-in-Err-clause-foreign
returns-in-Err-clause-foreign g c clean is =
    let start = c.args.rows.now.conn.now in
    let mid = c.loop-place.rows.conn.now in
    let last = c.next_event.new.rows.conn.now in
    let clean_mid : HasCleanDisk (state g.S.Store mid) = omega (arith, c.next_event.ensures.survives.clean, clean) in
    let clean_start : HasCleanDisk (state g.S.Store start) = omega (arith, c.loop-place.invariant.1.clean, clean_mid) in
    refuses c.args.version g.S.Store start (g.W.Wanted.wanted c.args.wanted.now) (c.requires clean_start) mid last c.loop-place.place c.loop-place.events (c.loop-place.invariant.2 clean_mid) (c.in-Err.ensures.foreign clean is) (c.in-Err.ensures.refused clean is)

pub returns-in_default-clause-tells : goal.returns-in_default-clause-tells
returns-in_default-clause-tells g c clean =
    let start = c.args.rows.now.conn.now in
    let mid = c.loop-place.rows.conn.now in
    let last = c.next_event.new.rows.conn.now in
    let clean_mid : HasCleanDisk (state g.S.Store mid) = omega (arith, c.next_event.ensures.survives.clean, clean) in
    let clean_start : HasCleanDisk (state g.S.Store start) = omega (arith, c.loop-place.invariant.1.clean, clean_mid) in
    tells_all c.args.version g.S.Store start (g.W.Wanted.wanted c.args.wanted.now) (c.requires clean_start) mid last c.loop-place.place c.loop-place.events (c.loop-place.invariant.2 clean_mid) c.text_tells_events.ensures (rw c.in_default.is at (c.in-Ok.ensures.end clean)) _ refl
