use Rattle.sqlite.proofs.Callers.{memory_is_clean}
use Rattle.checks.proofs.memory.place.Goals as goal

pub returns : goal.returns
returns c = c.place.ensures.effect (memory_is_clean c.place.new.self.conn)
