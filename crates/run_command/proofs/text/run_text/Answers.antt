use Rattle.std.proofs.Common.{rules}
use Rattle.run_command.proofs.text.run_text.Goals as goal

pub returns : goal.returns
returns c = (c.in_ok-lines.field-0, c.in_ok-lines.ensures.lines, search rules)
