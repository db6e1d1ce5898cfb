use Rattle.std.proofs.lemmas.Result.{IfOk-weaker}
use Rattle.parts.specs.Told.{events_told}
use Rattle.parts.proofs.ToldLemmas.{lines_told}
use Rattle.parts.proofs.told.read_told.Goals as goal

pub returns-in_default : goal.returns-in_default
returns-in_default c =
    IfOk-weaker c.read_rows.result _ _
    (λ o reads E held answer. reads (events_told c.args.query E) (lines_told c.text_tells_events.ensures c.args.query c.requires c.in_default.not-Conflicts E held c.args.text.now answer)) c.read_rows.ensures
