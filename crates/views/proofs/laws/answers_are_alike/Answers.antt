use Rattle.std.proofs.Common.{subst, sym}
use Rattle.views.specs.Question.{IsAnswer}
use Rattle.views.proofs.AnswerLemmas.{answers_are_one, lines_are_answers, silence_is_answer}
use Rattle.views.proofs.laws.answers_are_alike.Goals as goal

pub returns-clause-written : goal.returns-clause-written
returns-clause-written c = lines_are_answers c.numbers_tell_cover_texts.ensures.alike

pub returns-clause-one : goal.returns-clause-one
returns-clause-one c = answers_are_one c.numbers_tell_cover_texts.ensures.one c.numbers_tell_summaries.ensures

pub returns-clause-alike : goal.returns-clause-alike
returns-clause-alike c query A B text other a b same own its =
    answers_are_one c.numbers_tell_cover_texts.ensures.one c.numbers_tell_summaries.ensures query _ text other own
    (subst (λ E. IsAnswer query E other) (sym (c.sets_are_members.ensures.same A B a b same)) its)

pub returns-clause-silent : goal.returns-clause-silent
returns-clause-silent c =
    silence_is_answer (lines_are_answers c.numbers_tell_cover_texts.ensures.alike) (answers_are_one c.numbers_tell_cover_texts.ensures.one c.numbers_tell_summaries.ensures)
