use Rattle.std.proofs.Common.{◌++◌, sym, ap, ◌∙◌, string_bytes}
use Rattle.serde_json.specs.Written.{compact_text}
use Rattle.views.specs.Line.{kind_data, kind_line, line}
use Rattle.views.proofs.LineLemmas.{lines_more}
use Rattle.views.proofs.line.print_kinds.Goals as goal

pub loop-i-preserved : goal.loop-i-preserved
loop-i-preserved c =
    c.in_ok-end_line.ensures ∙ ap (λ t. string_bytes c.loop-i.out ++ line t) (c.as_str-in-loop-i.ensures ∙ c.in_ok-text.ensures)
    ∙ ap (λ k. string_bytes c.loop-i.out ++ line (compact_text (kind_data k c.at-row.result.now.1))) c.as_str.ensures
    ∙ ap (λ b. b ++ kind_line c.at-row.result.now) c.loop-i.invariant ∙ sym (lines_more kind_line c.args.kinds.now c.loop-i.i c.at-row.result.now c.at-row.ensures)
