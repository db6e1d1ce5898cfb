use Rattle.std.proofs.Common.{length, drop, ap, arith}
use Rattle.std.proofs.lemmas.List.{length-drop, length-take}
use Rattle.inbox.specs.Sets.{set_of}
use Rattle.site.specs.Delta.{delta, is_lacking, lacking_of}
use Rattle.site.proofs.DeltaLemmas.{length-filter}
use Rattle.site.proofs.MarkLemmas.{mark_moves}
use Rattle.site.proofs.site.Site.lend_delta.Goals as goal

pub overflow_add-mark : goal.overflow_add-mark
overflow_add-mark c =
    let E = set_of c.args.self.now in
    let mark = c.args.mark.now in
    omega (arith, c.fits-mark.1.1.1.0.1, c.len.ensures, ap length c.in_ok-part.ensures.part.events, length-take c.args.limit (lacking_of E mark.peer (drop mark.place E)), ap length c.requires.rest, length-drop mark.from (delta E mark.peer), length-filter (is_lacking E mark.peer) E, c.len-len.ensures, c.len-len.type_inv)

pub returns-clause-mark : goal.returns-clause-mark
returns-clause-mark c =
    let mark = c.args.mark.now in
    let part = c.in_ok-part in
    mark_moves c.args.self.now part.part.events mark.peer mark.own mark.among mark.from mark.place part.part.next c.args.limit c.len.result c.requires c.len.ensures part.ensures.part.events part.ensures.part.rest part.ensures.part.within
