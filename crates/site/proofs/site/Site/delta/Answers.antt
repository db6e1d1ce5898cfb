use Rattle.std.proofs.Common.{◌∙◌, arith}
use Rattle.std.proofs.lemmas.List.{take_all}
use Rattle.inbox.specs.Sets.{set_of}
use Rattle.site.specs.Delta.{delta, is_lacking}
use Rattle.site.proofs.DeltaLemmas.{length-filter}
use Rattle.site.proofs.site.Site.delta.Goals as goal

pub returns-clause-delta : goal.returns-clause-delta
returns-clause-delta c =
    let E = set_of c.args.self.now in
    let peer = c.args.peer.now in
    c.in_ok-delta_from.ensures.part.events ∙ take_all c.len-len.result (delta E peer) (omega (arith, length-filter (is_lacking E peer) E, c.len-len.ensures))
