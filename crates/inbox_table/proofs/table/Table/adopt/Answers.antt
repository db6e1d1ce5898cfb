use Rattle.inbox_table.proofs.table.Table.adopt.Goals as goal

pub returns-in-Ok-clause-adopts : goal.returns-in-Ok-clause-adopts
returns-in-Ok-clause-adopts g c clean =
    let it = c.in-Ok.ensures.adopts clean in
    (it.events, it.count, it.adopts)
