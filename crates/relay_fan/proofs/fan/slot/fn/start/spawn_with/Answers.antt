use Rattle.relay_fan.proofs.fan.slot.fn.start.spawn_with.Goals as goal

pub returns-then-load : goal.returns-then-load
returns-then-load g c = c.stopped.ensures.carried c.captures.start c.captures.rows
