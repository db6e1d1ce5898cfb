use Rattle.std.proofs.lemmas.Result.{IfOk-weaker}
use Rattle.coverage.proofs.ReadLemmas.{numbers_data-object, numbers_member}
use Rattle.coverage.proofs.numbers.read.read_numbers.Goals as goal

pub returns-in-Some-clause-complete : goal.returns-in-Some-clause-complete
returns-in-Some-clause-complete c =
    IfOk-weaker c.take_sources.result _ _ (λ o complete s h e. complete s h (numbers_member _ s _ c.in-Some.ensures e)) c.take_sources.ensures.complete

pub returns-in-None-clause-complete : goal.returns-in-None-clause-complete
returns-in-None-clause-complete c = λ s h e. numbers_data-object _ s c.in-None.ensures e
