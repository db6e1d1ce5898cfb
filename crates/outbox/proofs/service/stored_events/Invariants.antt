use Rattle.std.proofs.Common.{◌≡◌, List, ℕ}
use Rattle.outbox.specs.Order.{Accepted}
use Rattle.outbox.specs.steps.Change.{stored_rows}
use Rattle.outbox.proofs.ServiceLemmas.{HasRead}
use Rattle.outbox.proofs.service.stored_events.Given as goal

abbrev pub invariant-loop-row : goal.invariant-loop-row
invariant-loop-row l = (number : ℕ) (commands : List Accepted) → l.rows ≡ stored_rows number commands → HasRead l.source l.rows l.row-index l.batch number commands
