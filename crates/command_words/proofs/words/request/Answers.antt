use Rattle.std.proofs.Common.{sym, subst}
use Rattle.command_words.specs.Plans.{IsOrderNumber}
use Rattle.command_words.proofs.ClapLemmas.{Blames-weaker}
use Rattle.command_words.proofs.words.request.Goals as goal

pub returns-in-Err-order_number-clause-err : goal.returns-in-Err-order_number-clause-err
returns-in-Err-order_number-clause-err c =
    Blames-weaker _ _ c.in-Err-order_number.faulty
    (λ none r has. none r.order (subst (λ t. IsOrderNumber t r.order) (sym c.str_of-4.ensures) has.order))
    c.in-Err-order_number.ensures.err
