use Rattle.std.proofs.Common.{◌≡◌, ◌∙◌, ap, sym}
use Rattle.sqlite.specs.Effect.{Database}
use Rattle.outbox.proofs.service.Service.adopt.Goals as goal

pub returns-in-Ok-clause-settled : goal.returns-in-Ok-clause-settled
returns-in-Ok-clause-settled g c clean still db leaves = g.met.S.Store.settled c.read.new.conn.store db still leaves ∙ ap (λ (d : Database). d.trees) (sym (c.in-Ok.ensures.settled clean))
