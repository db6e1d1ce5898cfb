use Rattle.library_calls.proofs.number_calls.number_and_tell.Goals as goal

pub returns-clause-did : goal.returns-clause-did
returns-clause-did g c = (_, c.number_bytes-made.ensures, c.keep_text.ensures.keeps)
