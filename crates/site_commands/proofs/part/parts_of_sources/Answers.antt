use Rattle.site_commands.proofs.PartLemmas.{memory_refused}
use Rattle.site_commands.proofs.part.parts_of_sources.Goals as goal

pub returns-in-Ok-site_of-clause-err : goal.returns-in-Ok-site_of-clause-err
returns-in-Ok-site_of-clause-err g c =
    let pieces = c.in-Ok.ensures.ok in
    memory_refused (g.S.Shelf.is_content c.args.shelf.now) (g.S.Shelf.is_unread c.args.shelf.now) c.args.has_lines c.args.files.now
    pieces.contents c.memory_refusal.result pieces.read (c.memory_refusal.ensures pieces.contents)
