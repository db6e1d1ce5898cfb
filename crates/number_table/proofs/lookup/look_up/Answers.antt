use Rattle.std.proofs.Common.{◌≡◌, ◌∙◌, Ok, ap, subst, sym}
use Rattle.sqlite.specs.Held.{state}
use Rattle.attributes.specs.Event.{id_of, source_of, text}
use Rattle.attributes.specs.Members.{value_at, with_value}
use Rattle.inbox_table.specs.Calls.{ReadEffect}
use Rattle.inbox_table.specs.Rows.{events_named}
use Rattle.number_table.proofs.LookLemmas.{known_already, looked_none, looked_some, looks_none, told_of}
use Rattle.number_table.proofs.lookup.look_up.Goals as goal

pub returns-in-Some-clause-looks : goal.returns-in-Some-clause-looks
returns-in-Some-clause-looks g c = looks_none (state g.S.Store c.args.table.now.conn)

pub returns-in-Some-clause-learns : goal.returns-in-Some-clause-learns
returns-in-Some-clause-learns g c clean =
    known_already c.args.known.now c.args.event.now _ (state g.S.Store c.args.table.now.conn) c.args.counted.now (ap (λ t. value_at t c.args.known.now) (sym c.text-2.ensures.text) ∙ sym c.in-Some.ensures)

pub returns-in_default-found-clause-learns : goal.returns-in_default-found-clause-learns
returns-in_default-found-clause-learns g c clean =
    let old = state g.S.Store c.args.table.now.conn in
    let new = state g.S.Store c.find.new.self.conn in
    let e = c.args.event.now in
    let rows = c.in-Ok.rows in
    let n = c.args.table.now.rows in
    let read : ReadEffect (events_named (source_of e) (id_of e)) n old new (Ok rows) =
    subst (λ t. ReadEffect (events_named (source_of e) t) n old new (Ok rows)) c.id.ensures.value (subst (λ s. ReadEffect (events_named s c.id.result.now) n old new (Ok rows)) c.source.ensures.value (c.in-Ok.ensures.effect clean)) in
    let told = told_of e c.in_ok-found.found n old new rows c.requires clean c.find.ensures.crash read (c.find.ensures.was_open clean) (λ m E bare have. c.in_ok-found.ensures m E bare have) c.args.counted.now in
    looked_none e c.in_ok-found.found c.args.known.now old c.args.counted.now c.in_default-found.is told

pub returns-clause-learns : goal.returns-clause-learns
returns-clause-learns g c clean =
    let old = state g.S.Store c.args.table.now.conn in
    let new = state g.S.Store c.find.new.self.conn in
    let e = c.args.event.now in
    let rows = c.in-Ok.rows in
    let n = c.args.table.now.rows in
    let read : ReadEffect (events_named (source_of e) (id_of e)) n old new (Ok rows) =
    subst (λ t. ReadEffect (events_named (source_of e) t) n old new (Ok rows)) c.id.ensures.value (subst (λ s. ReadEffect (events_named s c.id.result.now) n old new (Ok rows)) c.source.ensures.value (c.in-Ok.ensures.effect clean)) in
    let told = told_of e c.in_ok-found.found n old new rows c.requires clean c.find.ensures.crash read (c.find.ensures.was_open clean) (λ m E bare have. c.in_ok-found.ensures m E bare have) c.args.counted.now in
    let put : c.add.new.self ≡ with_value (text e) c.in-Some-found.number c.args.known.now = c.in_ok-add.ensures ∙ ap (λ t. with_value t c.in-Some-found.number c.args.known.now) c.text-3.ensures.text in
    looked_some e c.in_ok-found.found c.in-Some-found.number c.args.known.now c.add.new.self old c.args.counted.now c.text.ensures.event c.in-Some-found.is put told
