use Rattle.parts.proofs.civil_day.CivilDay.text.Goals as goal

pub returns : goal.returns
returns c = (c.date-date.result, c.date-date.ensures, c.in_ok-format.ensures.ok)
