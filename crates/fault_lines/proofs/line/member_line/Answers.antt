use Rattle.std.proofs.Common.{◌∙◌, ap}
use Rattle.fault_lines.specs.Lines.{id_member}
use Rattle.fault_lines.proofs.LineLemmas.{line_step}
use Rattle.fault_lines.proofs.line.member_line.Goals as goal

pub returns : goal.returns
returns c =
    c.in_ok-line.ensures.ok
    ∙ line_step c.args.file.now c.args.member.now.index _ _ _ _ _ _ _ _
    (c.in_ok-id.ensures ∙ ap id_member c.id_of.ensures) c.fault_name-name.ensures c.in_ok-at.ensures c.hint-hint.ensures
