use Rattle.std.proofs.Common.{List, ℕ, subst}
use Rattle.site_commands.specs.Pieces.{ArePieces}
use Rattle.site_commands.proofs.CheckLemmas.{one_name_each}
use Rattle.site_commands.proofs.check.check.Goals as goal

pub found_of-requires : goal.found_of-requires
found_of-requires g c =
    let C = g.S.Shelf.is_content c.args.shelf.now in
    let plan = c.args.plan.now in
    let texts = c.in-Ok.pieces.texts.items in
    let places = c.in-Ok.pieces.places.items in
    one_name_each C plan.has_lines plan.files texts places (subst (λ (files : List (List ℕ)). ArePieces C plan.has_lines files texts places) c.as_slice.ensures c.in-Ok.ensures.ok)
