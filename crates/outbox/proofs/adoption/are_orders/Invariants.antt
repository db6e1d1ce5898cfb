use Rattle.outbox.specs.steps.Replay.{HasMatched}
use Rattle.outbox.proofs.adoption.are_orders.Given as goal

abbrev pub invariant-loop-row : goal.invariant-loop-row
invariant-loop-row l = HasMatched l.rows l.row-index l.fn.statuses l.left
