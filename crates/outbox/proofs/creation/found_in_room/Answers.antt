use Rattle.outbox.proofs.creation.found_in_room.Goals as goal

pub returns-in-Ok-clause-made : goal.returns-in-Ok-clause-made
returns-in-Ok-clause-made g c clean = rw c.as_str.ensures at (c.in-Ok.ensures.made clean)
