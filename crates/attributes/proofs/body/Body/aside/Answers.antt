use Rattle.std.proofs.Common.{string_bytes}
use Rattle.attributes.proofs.PlaceLemmas.{boundary_at}
use Rattle.attributes.proofs.body.Body.aside.Goals as goal

pub range_from-requires : goal.range_from-requires
range_from-requires c = λ _. boundary_at (string_bytes c.args.self.now.all) c.deref.result.now c.args.self.now.text_end c.deref.ensures c.deref.utf8 c.requires.ends
