use Rattle.coverage.proofs.SummaryTextLemmas.{same_by_holds, same_by_summary_texts}
use Rattle.coverage.proofs.summary.Summary.same.Goals as goal

pub returns-clause-numbers : goal.returns-clause-numbers
returns-clause-numbers c = same_by_holds c.args.self.now c.args.other.now c.is_equal.ensures.summary c.is_equal.ensures.other c.is_equal.result c.is_equal.ensures.equal

pub returns-clause-texts : goal.returns-clause-texts
returns-clause-texts c = same_by_summary_texts c.args.self.now c.args.other.now c.is_equal.ensures.summary c.is_equal.ensures.other c.is_equal.result c.is_equal.ensures.equal
