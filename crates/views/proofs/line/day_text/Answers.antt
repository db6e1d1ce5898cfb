use Rattle.views.proofs.line.day_text.Goals as goal

pub returns : goal.returns
returns c = (c.date_of-date.result, c.date_of-date.ensures, c.in_ok-format.ensures.ok)
