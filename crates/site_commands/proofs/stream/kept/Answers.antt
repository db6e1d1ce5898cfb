use Rattle.site_commands.proofs.StreamLemmas.{ends_so}
use Rattle.site_commands.proofs.stream.kept.Goals as goal

pub returns-in-Ok : goal.returns-in-Ok
returns-in-Ok g c =
    ends_so (g.S.Shelf.is_content c.args.shelf.now) (g.S.Shelf.is_unread c.args.shelf.now) c.args.file.now _ _ _ c.in-Ok.ensures.input c.follow-ended.result c.end.result
    c.follow-ended.ensures.told c.follow-ended.ensures.until c.end.ensures
