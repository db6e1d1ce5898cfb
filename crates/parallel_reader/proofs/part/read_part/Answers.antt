use Rattle.std.proofs.Common.{◌∙◌, sym, subst}
use Rattle.event_json.specs.Parts.{part_text}
use Rattle.parallel_reader.specs.Parts.{IsBatchPart}
use Rattle.parallel_reader.proofs.PartLemmas.{ordered_part, sorted_part, of_some}
use Rattle.parallel_reader.proofs.part.read_part.Goals as goal
use Rattle.parallel_reader.proofs.part.read_part.Goals.{then-is_sorted+in_ok-batch-in-Ok, else-is_sorted+in_ok-batch-in-Ok-2}

pub returns-after-is_sorted : goal.returns-after-is_sorted
returns-after-is_sorted c =
    let text = part_text c.args.opened c.args.bytes.now c.args.closed in
    let spells = of_some _ c.in_ok-events.field-0 c.in-Some.events c.in-Some.is c.in_ok-events.ensures in
    let n = c.in-Ok.ensures in
    elim c.if-is_sorted.branch [
      | then-is_sorted+in_ok-batch-in-Ok w ↦ subst (IsBatchPart text c.args.is_sorted) (sym w.batch-is) (sorted_part text c.args.is_sorted c.in-Some.events c.in-Ok.events.items w.in_ok-batch-in-Ok.batch spells n.same n.numbered n.events w.in_ok-batch-in-Ok.ensures w.if-is_sorted.true)
      | else-is_sorted+in_ok-batch-in-Ok-2 w ↦ subst (IsBatchPart text c.args.is_sorted) (sym w.batch-is) (ordered_part text c.args.is_sorted c.in-Some.events c.in-Ok.events.items w.in_ok-batch-in-Ok-2.batch spells n.same n.numbered n.events w.in_ok-batch-in-Ok-2.ensures)
    ]
