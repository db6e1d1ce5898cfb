use Rattle.std.proofs.Common.{◌≡◌, false, rules, true}
use Rattle.sqlite.specs.Held.{state}
use Rattle.database_layout.specs.Layout.{has_name}
use Rattle.outbox.proofs.FoundLemmas.{not_both}
use Rattle.outbox.proofs.OpeningLemmas.{founded, not_founded, not_taken, taken}
use Rattle.outbox.proofs.service.Service.open.Goals as goal

pub returns-in-Ok-clause-opened : goal.returns-in-Ok-clause-opened
returns-in-Ok-clause-opened g c =
    let there : has_name c.args.conn.schema ≡ true = search rules in
    let of = c.in-Ok.ensures in
    taken c.args.source.now c.args.base (state g.S.Store c.args.conn) (state g.S.Store c.in-Ok.service.conn) c.in-Ok.service there of.left of.stands of.exact of.open of.settled

pub returns-in-Err-clause-refused : goal.returns-in-Err-clause-refused
returns-in-Err-clause-refused g c =
    let there : has_name c.args.conn.schema ≡ true = search rules in
    let of = c.in-Err.ensures in
    not_taken c.args.source.now c.args.base (state g.S.Store c.args.conn) (state g.S.Store c.in-Err.refused.conn) c.in-Err.refused.fault there of.back of.foreign of.strange of.fault

pub returns-in-Ok-create-clause-opened : goal.returns-in-Ok-create-clause-opened
returns-in-Ok-create-clause-opened g c =
    let none : has_name c.args.conn.schema ≡ false = search rules in
    let of = c.in-Ok-create.ensures in
    founded c.args.source.now c.args.base (state g.S.Store c.args.conn) (state g.S.Store c.in-Ok-create.service.conn) c.in-Ok-create.service none of.first of.given of.made of.open of.settled of.crash

pub returns-in-Err-create-clause-refused : goal.returns-in-Err-create-clause-refused
returns-in-Err-create-clause-refused g c =
    let none : has_name c.args.conn.schema ≡ false = search rules in
    let of = c.in-Err-create.ensures in
    not_founded c.args.source.now c.args.base (state g.S.Store c.args.conn) (state g.S.Store c.in-Err-create.refused.conn) c.in-Err-create.refused.fault none of.back of.crash_refused of.foreign of.fault

pub returns-in-Ok-clause-missing : goal.returns-in-Ok-clause-missing
returns-in-Ok-clause-missing g c there lacks = c.in-Ok.ensures.missing lacks

pub returns-in-Err-clause-missing : goal.returns-in-Err-clause-missing
returns-in-Err-clause-missing g c there lacks = c.in-Err.ensures.missing lacks

pub returns-in-Ok-create-clause-missing : goal.returns-in-Ok-create-clause-missing
returns-in-Ok-create-clause-missing g c there lacks =
    let none : has_name c.args.conn.schema ≡ false = search rules in
    absurd (not_both (has_name c.args.conn.schema) there none)

pub returns-in-Err-create-clause-missing : goal.returns-in-Err-create-clause-missing
returns-in-Err-create-clause-missing g c there lacks =
    let none : has_name c.args.conn.schema ≡ false = search rules in
    absurd (not_both (has_name c.args.conn.schema) there none)
