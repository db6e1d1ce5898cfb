use Rattle.std.proofs.Common.{ap, length, slice_get, sym, ◌∙◌}
use Rattle.site_commands.proofs.split.save_events.Goals as goal

pub returns-in-Ok-part_lines-clause-err : goal.returns-in-Ok-part_lines-clause-err
returns-in-Ok-part_lines-clause-err g c =
    let slice = c.as_slice-in-Ok-part_lines.ensures.value in
    c.in-Err-save_parts.ensures.err c.args.events
    (record {
      len = ap length slice ∙ sym c.in-Ok.parts.ok.0 ∙ c.in-Ok.ensures.len;
      each = λ i below. ap (λ parts. slice_get parts i) slice ∙ c.in-Ok.ensures.parts i below;
    })
