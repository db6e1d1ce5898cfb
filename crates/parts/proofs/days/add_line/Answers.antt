use Rattle.std.proofs.Common.{ap, ap₂, ◌∙◌, string_bytes}
use Rattle.std.proofs.lemmas.Result.{on_ok_weaker}
use Rattle.serde_json.specs.Written.{compact_text}
use Rattle.views.specs.Line.{day_data, line}
use Rattle.parts.proofs.days.add_line.Goals as goal

pub returns : goal.returns
returns c =
    let day = string_bytes c.in_ok-day.day in
    let row = c.args.row.now in
    let written = ap line (c.as_str-3.ensures ∙ c.in_ok-text.ensures ∙ ap₂ (λ k d. compact_text (day_data k d row.1)) c.as_str.ensures c.as_str-2.ensures.value) in
    on_ok_weaker c.end_line.result (λ e. (line c.as_str-3.result.now, (day, c.in_ok-day.ensures, written), e)) c.end_line.ensures
