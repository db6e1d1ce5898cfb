use Rattle.std.proofs.Common.{◌∙◌, Ok, inl, inr, subst, sym, true≢false}
use Rattle.sqlite.specs.Held.{state}
use Rattle.attributes.specs.Event.{id_of, source_of}
use Rattle.inbox_table.specs.Calls.{ReadEffect}
use Rattle.inbox_table.specs.Rows.{events_named}
use Rattle.numbers.specs.Filter.{MayHave}
use Rattle.number_table.proofs.PageLemmas.{none_other, shown_rows, some_other}
use Rattle.number_table.proofs.count.has_no_other_row.Goals as goal

pub returns-then-not-may_have-clause-none : goal.returns-then-not-may_have-clause-none
returns-then-not-may_have-clause-none g c clean is =
    inl (λ may. true≢false (sym (c.may_have.ensures.1 (subst (MayHave c.args.counted.now.seen) (sym c.text.ensures.text) may)) ∙ c.if-not-may_have.true))

pub returns-clause-none : goal.returns-clause-none
returns-clause-none g c clean is =
    let old = state g.S.Store c.args.table.now.conn in
    let new = state g.S.Store c.find.new.self.conn in
    let e = c.args.event.now in
    let X = c.in-Ok.rows in
    let n = c.args.table.now.rows in
    let read : ReadEffect (events_named (source_of e) (id_of e)) n old new (Ok X) =
    subst (λ t. ReadEffect (events_named (source_of e) t) n old new (Ok X)) c.id.ensures.value (subst (λ s. ReadEffect (events_named s c.id.result.now) n old new (Ok X)) c.source.ensures.value (c.in-Ok.ensures.effect clean)) in
    inr (λ rows has_rows.
    none_other c.args.number e X rows (shown_rows (events_named (source_of e) (id_of e)) n old new X rows clean c.find.ensures.crash read (c.find.ensures.was_open clean) has_rows) (c.in_ok-has_no_other.ensures.0 is))

pub returns-clause-other : goal.returns-clause-other
returns-clause-other g c clean is rows has_rows all =
    let old = state g.S.Store c.args.table.now.conn in
    let new = state g.S.Store c.find.new.self.conn in
    let e = c.args.event.now in
    let X = c.in-Ok.rows in
    let n = c.args.table.now.rows in
    let read : ReadEffect (events_named (source_of e) (id_of e)) n old new (Ok X) =
    subst (λ t. ReadEffect (events_named (source_of e) t) n old new (Ok X)) c.id.ensures.value (subst (λ s. ReadEffect (events_named s c.id.result.now) n old new (Ok X)) c.source.ensures.value (c.in-Ok.ensures.effect clean)) in
    let told = shown_rows (events_named (source_of e) (id_of e)) n old new X rows clean c.find.ensures.crash read (c.find.ensures.was_open clean) has_rows in
    true≢false (sym (c.in_ok-has_no_other.ensures.1 (some_other c.args.number e X rows told all)) ∙ is)
