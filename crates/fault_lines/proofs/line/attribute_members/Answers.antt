use Rattle.std.proofs.Common.{◌∙◌, option_map, string_bytes}
use Rattle.serde_json.specs.View.{view}
use Rattle.fault_lines.specs.Member.{member_at_fault}
use Rattle.fault_lines.proofs.LineLemmas.{attribute_step}
use Rattle.fault_lines.proofs.line.attribute_members.Goals as goal

pub returns-in_ok-members-in-Some : goal.returns-in_ok-members-in-Some
returns-in_ok-members-in-Some c =
    c.in_ok-members-in-Some.ensures.ok
    ∙ attribute_step c.in-Some.name.now (string_bytes c.in_ok-name-in-Some.name) (string_bytes c.in_ok-value-in-Some.value) (member_at_fault c.args.fault (view c.args.tree.now)) (option_map (λ v. view v.now) c.get.result) (view c.args.tree.now)
    c.in-Some.ensures c.in_ok-name-in-Some.ensures c.in_ok-value-in-Some.ensures c.get.ensures
