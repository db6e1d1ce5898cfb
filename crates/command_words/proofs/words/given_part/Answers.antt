use Rattle.std.proofs.Common.{Some, None, sym, subst, ◌∙◌}
use Rattle.std.specs.Prelude.{codes}
use Rattle.clap.specs.Words.{found_of}
use Rattle.clap.proofs.WalkLemmas.{first_value-rows}
use Rattle.command_words.specs.Plans.{IsPartWritten}
use Rattle.command_words.proofs.ClapLemmas.{Blames-weaker}
use Rattle.command_words.proofs.GivenLemmas.{no_part}
use Rattle.command_words.proofs.words.given_part.Goals as goal

pub returns-in-Ok-clause-ok : goal.returns-in-Ok-clause-ok
returns-in-Ok-clause-ok c = subst (λ t. IsPartWritten t c.args.count (Some c.in-Ok.number)) (c.in-Some.ensures ∙ first_value-rows (found_of c.args.matches.now) (codes "part")) c.in-Ok.ensures.ok

pub returns-in-Err-clause-err : goal.returns-in-Err-clause-err
returns-in-Err-clause-err c =
    Blames-weaker _ _ c.in-Err.faulty
    (λ none n part are has. no_part _ c.in-Some.text.now c.args.count n part c.requires none are
    (subst (λ t. IsPartWritten t n part) (sym (c.in-Some.ensures ∙ first_value-rows (found_of c.args.matches.now) (codes "part"))) has))
    c.in-Err.ensures.err

pub returns-in-None-clause-ok : goal.returns-in-None-clause-ok
returns-in-None-clause-ok c = subst (λ t. IsPartWritten t c.args.count None) (c.in-None.ensures ∙ first_value-rows (found_of c.args.matches.now) (codes "part")) tt
