use Rattle.std.proofs.Common.{◌≡◌, ◌∙◌, true, ap, rules}
use Rattle.database_layout.specs.Layout.{HasService, lacks_name, schema_in as whole_schema}
use Rattle.outbox.proofs.FoundLemmas.{all_named, not_both}
use Rattle.outbox.proofs.adoption.read.Goals as goal

pub returns-then-lacks_name-clause-foreign : goal.returns-then-lacks_name-clause-foreign
returns-then-lacks_name-clause-foreign g c clean _ source base commands allowed box =
    let lacks : lacks_name c.args.conn.now.schema ≡ true = search rules in
    not_both (lacks_name c.args.conn.now.schema) lacks (ap lacks_name box.schema ∙ all_named box.layout)

pub returns-in-Ok-None-clause-foreign : goal.returns-in-Ok-None-clause-foreign
returns-in-Ok-None-clause-foreign g c clean _ = rw c.in-Ok-None.field-0-is at (c.in-Ok-None.ensures.none clean)

pub returns-in-Ok-None-clause-strange : goal.returns-in-Ok-None-clause-strange
returns-in-Ok-None-clause-strange g c named others _ =
    let there : HasService c.in-Some.layout = search rules in
    let schema : c.args.conn.now.schema ≡ whole_schema c.in-Some.layout = search rules in
    others (c.in-Some.layout, there) schema
