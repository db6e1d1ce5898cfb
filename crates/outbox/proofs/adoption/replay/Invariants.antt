use Rattle.outbox.specs.steps.Replay.{HasReplayed}
use Rattle.outbox.proofs.adoption.replay.Given as goal

abbrev pub invariant-loop-row : goal.invariant-loop-row
invariant-loop-row l = HasReplayed l.base l.rows l.row-index l.statuses l.orders l.last
