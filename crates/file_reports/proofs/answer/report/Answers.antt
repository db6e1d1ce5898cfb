use Rattle.file_reports.proofs.AlikeLemmas.{report_alike}
use Rattle.file_reports.proofs.answer.report.Goals as goal

pub returns-clause-alike : goal.returns-clause-alike
returns-clause-alike g c =
    λ others other same there. report_alike c.readings_are_one.ensures.one c.answers_are_alike.ensures.alike
    c.args.query c.args.files.items others c.in_ok-events.events c.in_ok-text.text other c.in_ok-events.ensures.ok c.in_ok-text.ensures.lines same there
