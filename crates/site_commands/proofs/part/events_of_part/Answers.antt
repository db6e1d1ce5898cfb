use Rattle.site_commands.proofs.PartLemmas.{memory_refused}
use Rattle.site_commands.proofs.part.events_of_part.Goals as goal

pub returns-in-Err-part_line-clause-err : goal.returns-in-Err-part_line-clause-err
returns-in-Err-part_line-clause-err g c =
    let spelled = c.in-Ok.ensures.ok in
    memory_refused (g.S.Shelf.is_content c.args.shelf.now) (g.S.Shelf.is_unread c.args.shelf.now) c.args.has_lines c.args.files.now
    spelled.0 c.memory_refusal.result spelled.1 (c.memory_refusal.ensures spelled.0)
