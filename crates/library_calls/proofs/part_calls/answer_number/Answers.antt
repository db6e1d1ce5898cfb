use Rattle.std.proofs.Common.{subst}
use Rattle.library_calls.specs.Calls.{IsDoneOrWant}
use Rattle.library_calls.specs.Parts.{WantsMemoryAlone}
use Rattle.library_calls.proofs.CutLemmas.{no_summary, same_question}
use Rattle.library_calls.proofs.part_calls.answer_number.Goals as goal

pub returns-in-Some-clause-taken : goal.returns-in-Some-clause-taken
returns-in-Some-clause-taken c =
    λ q is. subst (λ r. WantsMemoryAlone r (record { answers = c.args.answers; bytes = c.args.bytes.now; lengths = c.args.lengths.now })
    (IsDoneOrWant c.answer_whole.new.reply.status))
    (same_question c.args.number c.in-Some.query q c.in-Some.ensures.some is) c.answer_whole.ensures.taken

pub returns-in-Some-clause-summary_taken : goal.returns-in-Some-clause-summary_taken
returns-in-Some-clause-summary_taken c is = absurd (no_summary c.args.number c.in-Some.query c.in-Some.ensures.some is)
