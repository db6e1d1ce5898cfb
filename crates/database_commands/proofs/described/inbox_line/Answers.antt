use Rattle.std.proofs.Common.{◌∙◌, inl, inr, ap, length, refl, subst, sym}
use Rattle.std.proofs.lemmas.Result.{IfOk-weaker}
use Rattle.sqlite.specs.Held.{state}
use Rattle.databases.specs.Described.{SaysInbox, TellsInbox}
use Rattle.database_commands.specs.steps.Told.{TellsInboxLine}
use Rattle.database_commands.proofs.DescribedLemmas.{foreign_table, says_events, tells_found}
use Rattle.database_commands.proofs.described.inbox_line.Goals as goal

pub returns-in-Ok-clause-told : goal.returns-in-Ok-clause-told
returns-in-Ok-clause-told g c clean =
    let name = c.args.name.now in
    let events = c.in-Ok.found.events in
    let db = (state g.S.Store c.args.conn.now).now in
    IfOk-weaker c.events_line-in-Ok.result (TellsInboxLine name events c.version_number.result) (TellsInbox name db)
    (λ text line. tells_found name db c.in-Ok.found.version events text (c.in-Ok.ensures.finds clean) (subst (λ n. TellsInboxLine name events n text) c.version_number.ensures line))
    c.events_line-in-Ok.ensures.line

pub returns-in-Err-clause-foreign : goal.returns-in-Err-clause-foreign
returns-in-Err-clause-foreign g c is clean = c.in-Err.ensures.rejects.foreign clean (foreign_table c.in-Err.fault (sym c.of_table.ensures ∙ is))

pub returns-in-Ok-clause-line : goal.returns-in-Ok-clause-line
returns-in-Ok-clause-line g c =
    IfOk-weaker c.events_line-in-Ok.result (TellsInboxLine c.args.name.now c.in-Ok.found.events c.version_number.result) (SaysInbox c.args.name.now)
    (λ text line. says_events c.args.name.now c.in-Ok.found.events c.version_number.result text (inr (c.in-Ok.found.version, c.version_number.ensures)) line)
    c.events_line-in-Ok.ensures.line

pub returns-then-not-has_inbox-clause-line : goal.returns-then-not-has_inbox-clause-line
returns-then-not-has_inbox-clause-line g c =
    IfOk-weaker c.events_line.result (TellsInboxLine c.args.name.now c.empty.result 0) (SaysInbox c.args.name.now)
    (λ text line. says_events c.args.name.now c.empty.result 0 text (inl (refl, ap length c.empty.ensures)) line)
    c.events_line.ensures.line
