use Rattle.std.proofs.Common.{string_bytes}
use Rattle.attributes.proofs.PlaceLemmas.{boundary_at}
use Rattle.attributes.proofs.body.Body.text.Goals as goal

pub range-requires-clause-end_boundary : goal.range-requires-clause-end_boundary
range-requires-clause-end_boundary c = boundary_at (string_bytes c.args.self.now.all) c.deref.result.now c.args.self.now.text_end c.deref.ensures c.deref.utf8 c.requires.ends
