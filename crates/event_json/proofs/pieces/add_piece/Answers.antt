use Rattle.std.proofs.Common.{map}
use Rattle.serde_json.specs.View.{view}
use Rattle.event_json.proofs.PieceLemmas.{piece, of_some}
use Rattle.event_json.proofs.pieces.add_piece.Goals as goal

pub returns : goal.returns
returns g c =
    let got = of_some _ c.in_ok-members.field-0 c.in-Some.members c.in-Some.is c.in_ok-members.ensures in
    piece c.args.text.now c.in-Some.members.items (g.G.Gather.is_of c.args.gathered) (g.G.Gather.is_of c.in_ok-more.more) got.0 got.1 got.2 c.in_ok-more.ensures
