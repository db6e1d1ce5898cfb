use Rattle.std.proofs.Common.{◌∙◌, sym}
use Rattle.std.proofs.lemmas.List.{take_rest}
use Rattle.site_commands.proofs.PieceLemmas.{first_of_lines, one_line}
use Rattle.site_commands.proofs.pieces.first_line.Goals as goal

pub returns-in-Some-clause-lines : goal.returns-in-Some-clause-lines
returns-in-Some-clause-lines c = rw take_rest (first_of_lines c.args.text.now c.in-Some.at (sym c.line_end.ensures ∙ c.in-Some.is))

pub returns-in-None-clause-lines : goal.returns-in-None-clause-lines
returns-in-None-clause-lines c = one_line c.args.text.now (sym c.line_end.ensures ∙ c.in-None.is)
