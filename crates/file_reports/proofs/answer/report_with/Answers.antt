use Rattle.file_reports.proofs.FileLemmas.{answered_with}
use Rattle.file_reports.proofs.answer.report_with.Goals as goal

pub returns-clause-ok : goal.returns-clause-ok
returns-clause-ok c = λ files keeps. answered_with c.args.query files c.args.held c.args.events c.take_all.new.site c.in_ok-lines.lines c.in_ok-take_all.ensures c.in_ok-lines.ensures.lines keeps
