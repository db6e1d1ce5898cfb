use Rattle.std.proofs.Common.{subst}
use Rattle.site_program.proofs.NumberLemmas.{ends_numbering}
use Rattle.site_program.proofs.number.numbered.Goals as goal

pub returns-in-Ok : goal.returns-in-Ok
returns-in-Ok g c =
    ends_numbering (g.S.Shelf.is_content c.args.shelf.now) (g.S.Shelf.is_unread c.args.shelf.now) c.args.plan.now _ _ _ _ _ (λ bytes gives. subst (λ name. g.S.Shelf.is_content c.args.shelf.now name bytes) c.as_str.ensures (c.in-Ok.ensures.input bytes gives))
    c.number-ended.result c.end.result c.number-ended.ensures.all c.number-ended.ensures.until c.end.ensures
