use Rattle.std.proofs.Common.{◌∙◌, Some, ap, flat_map, map, subst, sym}
use Rattle.inbox.specs.Conflicts.{conflicts}
use Rattle.parts.specs.Lines.{AreLinesOf}
use Rattle.parts.proofs.ConflictLineLemmas.{conflict_rows, events_in, flat_rows, is_row}
use Rattle.parts.proofs.ReadLemmas.{none_some, some_one}
use Rattle.parts.proofs.ToldLemmas.{all_sequenced}
use Rattle.parts.proofs.told.read_conflicts.Goals as goal

pub returns-in_default : goal.returns-in_default
returns-in_default c E held answer =
    let rows = map events_in (conflicts E) in
    absurd (none_some rows (sym c.in_default.is ∙ c.in_ok-rows.ensures rows (subst (AreLinesOf is_row rows) (sym answer) (conflict_rows E (all_sequenced c.text_tells_events.ensures E held)))))

pub returns : goal.returns
returns c E held answer =
    let rows = map events_in (conflicts E) in
    let same = some_one c.in-Some.rows rows (sym c.in-Some.is ∙ c.in_ok-rows.ensures rows (subst (AreLinesOf is_row rows) (sym answer) (conflict_rows E (all_sequenced c.text_tells_events.ensures E held)))) in
    ap Some (c.in_ok-flatten.ensures ∙ ap (flat_map (λ events. events)) same ∙ flat_rows (conflicts E))
