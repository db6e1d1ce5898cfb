use Rattle.std.proofs.Common.{◌≡◌, ◌∙◌, ap, false, rules, sym}
use Rattle.sqlite.specs.Effect.{Database}
use Rattle.sqlite.specs.Held.{state}
use Rattle.database_layout.specs.Layout.{has_inbox}
use Rattle.inbox_table.specs.steps.Reads.{HasVersion}
use Rattle.inbox_table.proofs.UpgradeLemmas.{both_none, finds_all, rejects_rows, rejects_stranger, rejects_unnamed}
use Rattle.inbox_table.proofs.inspection.inspect.Goals as goal

pub returns-then-not-has_inbox-clause-rejects : goal.returns-then-not-has_inbox-clause-rejects
returns-then-not-has_inbox-clause-rejects g c =
    let none : has_inbox c.args.conn.now.schema ≡ false = search rules in
    rejects_unnamed (state g.S.Store c.args.conn.now) none

pub returns-in_default-clause-rejects : goal.returns-in_default-clause-rejects
returns-in_default-clause-rejects g c =
    rejects_stranger (state g.S.Store c.args.conn.now) c.stranger.result (rw c.schema-in_default.ensures.value at c.stranger.ensures.foreign)

pub returns-in-Ok-clause-finds : goal.returns-in-Ok-clause-finds
returns-in-Ok-clause-finds g c clean =
    let ours : HasVersion c.in-Some.version c.args.conn.now.schema = search rules in
    finds_all c.in-Some.version (state g.S.Store c.args.conn.now).now _ _ ours (c.in-Ok.ensures.tells clean)

pub returns-in-Ok-clause-both : goal.returns-in-Ok-clause-both
returns-in-Ok-clause-both g c both =
    let ours : HasVersion c.in-Some.version c.args.conn.now.schema = search rules in
    absurd (both_none c.args.conn.now.schema ours.0 ours.2 both)

pub returns-in-Err-clause-rejects : goal.returns-in-Err-clause-rejects
returns-in-Err-clause-rejects g c =
    let ours : HasVersion c.in-Some.version c.args.conn.now.schema = search rules in
    rejects_rows c.in-Some.version ours.0 (state g.S.Store c.args.conn.now) (state g.S.Store c.read.new.conn) c.in-Err.fault ours.1 ours.2 c.read.ensures.same c.read.ensures.survives c.in-Err.ensures.foreign

pub returns-in-Err-clause-both : goal.returns-in-Err-clause-both
returns-in-Err-clause-both g c both =
    let ours : HasVersion c.in-Some.version c.args.conn.now.schema = search rules in
    absurd (both_none c.args.conn.now.schema ours.0 ours.2 both)

pub returns-in-Ok-clause-settled : goal.returns-in-Ok-clause-settled
returns-in-Ok-clause-settled g c clean still db leaves =
    g.met.S.Store.settled c.read.new.conn.store db still leaves ∙ ap (λ (d : Database). d.trees) (sym (c.in-Ok.ensures.settled clean))
