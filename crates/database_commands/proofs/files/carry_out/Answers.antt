use Rattle.database_commands.proofs.MadeLemmas.{closed_says}
use Rattle.database_commands.proofs.NamedLemmas.{closed_fails, refused_on}
use Rattle.database_commands.proofs.files.carry_out.Goals as goal

pub returns-clause-answer : goal.returns-clause-answer
returns-clause-answer g c = closed_says c.performed.result (λ e. e.outcome) c.closed.result _ c.closed.ensures.answer c.performed.ensures.line

pub returns-clause-fault : goal.returns-clause-fault
returns-clause-fault g c =
    closed_fails c.performed.result (λ e. e.outcome) c.closed.result _ c.closed.ensures.answer c.performed.ensures.fault
    (refused_on c.args.opened c.performed.result _ c.performed.ensures.refused c.requires.unopened)
