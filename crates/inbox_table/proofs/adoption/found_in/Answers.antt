use Rattle.std.proofs.Common.{◌≡◌, ◌∙◌, ap, false, rules, sym}
use Rattle.std.proofs.lemmas.Result.{IfOk-weaker}
use Rattle.sqlite.specs.Effect.{Database}
use Rattle.sqlite.specs.Held.{state}
use Rattle.database_layout.specs.Layout.{HasInbox2, has_inbox, schema_in}
use Rattle.inbox_table.specs.Calls.{IsSettled}
use Rattle.inbox_table.specs.declared.version.Version.TheVariants.{Two}
use Rattle.inbox_table.proofs.TableLemmas.{adopted_any}
use Rattle.inbox_table.proofs.UpgradeLemmas.{adopts_new, both_none, no_old, rejects_rows, rejects_stranger, rejects_unnamed, upgrade_told}
use Rattle.inbox_table.proofs.adoption.found_in.Goals as goal

pub returns-then-not-has_inbox-clause-rejects : goal.returns-then-not-has_inbox-clause-rejects
returns-then-not-has_inbox-clause-rejects g c =
    let none : has_inbox c.args.conn.now.schema ≡ false = search rules in
    rejects_unnamed (state g.S.Store c.args.conn.now) none

pub returns-in_default-clause-rejects : goal.returns-in_default-clause-rejects
returns-in_default-clause-rejects g c =
    rejects_stranger (state g.S.Store c.args.conn.now) c.stranger.result (rw c.schema-in_default.ensures.value at c.stranger.ensures.foreign)

pub returns-in-Ok-clause-both : goal.returns-in-Ok-clause-both
returns-in-Ok-clause-both g c both =
    let is : c.args.conn.now.schema ≡ schema_in c.in-Some.layout = search rules in
    absurd (both_none c.args.conn.now.schema c.in-Some.layout is both)

pub returns-in-Err-clause-both : goal.returns-in-Err-clause-both
returns-in-Err-clause-both g c both =
    let is : c.args.conn.now.schema ≡ schema_in c.in-Some.layout = search rules in
    absurd (both_none c.args.conn.now.schema c.in-Some.layout is both)

pub returns-then-has_inbox-clause-both : goal.returns-then-has_inbox-clause-both
returns-then-has_inbox-clause-both g c both =
    let is : c.args.conn.now.schema ≡ schema_in c.in-Some.layout = search rules in
    absurd (both_none c.args.conn.now.schema c.in-Some.layout is both)

pub returns-clause-both : goal.returns-clause-both
returns-clause-both g c both =
    let is : c.args.conn.now.schema ≡ schema_in c.in-Some.layout = search rules in
    absurd (both_none c.args.conn.now.schema c.in-Some.layout is both)

pub returns-then-has_inbox-clause-adopts : goal.returns-then-has_inbox-clause-adopts
returns-then-has_inbox-clause-adopts g c clean =
    IfOk-weaker c.upgrade.result _ _ (λ f it. adopted_any c.args.keeps (state g.S.Store c.args.conn.now) (state g.S.Store c.upgrade.new.conn) f.rows f.events it) (c.upgrade.ensures.adopts clean)

pub returns-then-has_inbox-clause-told : goal.returns-then-has_inbox-clause-told
returns-then-has_inbox-clause-told g c clean =
    upgrade_told (λ f. f.rows) (λ f. f.events) (g.W.Watch.told c.args.watch.now) (state g.S.Store c.args.conn.now) (state g.S.Store c.upgrade.new.conn) c.upgrade.result (c.upgrade.ensures.adopts clean) c.upgrade.ensures.told

pub returns-in-Ok-clause-told : goal.returns-in-Ok-clause-told
returns-in-Ok-clause-told g c clean events box =
    let has : HasInbox2 c.in-Some.layout = search rules in
    let is : c.args.conn.now.schema ≡ schema_in c.in-Some.layout = search rules in
    absurd (no_old (state g.S.Store c.args.conn.now).now events c.in-Some.layout has is box)

pub returns-in-Ok-clause-adopts : goal.returns-in-Ok-clause-adopts
returns-in-Ok-clause-adopts g c clean =
    let old = state g.S.Store c.args.conn.now in
    let new = state g.S.Store c.read.new.conn in
    let still = c.in-Ok.ensures.open clean in
    let settled : IsSettled new = λ still db leaves. g.met.S.Store.settled c.read.new.conn.store db still leaves ∙ ap (λ (d : Database). d.trees) (sym (c.in-Ok.ensures.settled clean)) in
    let has : HasInbox2 c.in-Some.layout = search rules in
    let is : c.args.conn.now.schema ≡ schema_in c.in-Some.layout = search rules in
    adopts_new c.in-Some.layout old new c.args.keeps _ _ has is (c.in-Ok.ensures.tells clean) (c.read.ensures.same.same clean still).0 still settled

pub returns-in-Err-clause-rejects : goal.returns-in-Err-clause-rejects
returns-in-Err-clause-rejects g c =
    let has : HasInbox2 c.in-Some.layout = search rules in
    let is : c.args.conn.now.schema ≡ schema_in c.in-Some.layout = search rules in
    rejects_rows Two c.in-Some.layout (state g.S.Store c.args.conn.now) (state g.S.Store c.read.new.conn) c.in-Err.fault has is c.read.ensures.same c.read.ensures.survives c.in-Err.ensures.foreign
