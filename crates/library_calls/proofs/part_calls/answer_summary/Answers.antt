use Rattle.library_calls.proofs.CutLemmas.{done_or_want}
use Rattle.library_calls.proofs.part_calls.answer_summary.Goals as goal

pub returns-clause-taken : goal.returns-clause-taken
returns-clause-taken c there p E parts =
    done_or_want _ _ c.whole_summary-made.result c.tell_whole.new.reply c.tell_whole.ensures.ok c.tell_whole.ensures.err (c.whole_summary-made.ensures.taken there p E parts)
