use Rattle.command_words.proofs.CommandLemmas.{place_of}
use Rattle.command_words.proofs.command.Command.of_word.Goals as goal

pub returns-clause-none : goal.returns-clause-none
returns-clause-none c is command same = let found = place_of command in c.named.ensures.none is found.0 command found.1 same
