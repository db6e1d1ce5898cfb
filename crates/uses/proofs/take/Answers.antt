use Rattle.sqlite.specs.Held.{state}
use Rattle.uses.proofs.RegionLemmas.{still}
use Rattle.uses.proofs.take.Goals as goal

pub region_of-requires : goal.region_of-requires
region_of-requires g c =
    let last = c.end-keeper.result in
    let begun = c.in-Ok.field-0 in
    still (λ conn. state g.S.Store conn) c.first_arrivals_stay.ensures c.args.kept.site c.close-site.result begun.shared begun.pass c.split.new.pass c.serve-served.new.pass c.meet.new.me
    c.in-Ok-split.own last.pass c.of-flusher.result c.serve-served.new.aside c.in-Ok.ensures.begun c.in-Ok-split.ensures.old c.in-Ok-split.ensures.new c.of-flusher.ensures.pass
    c.serve-served.ensures.aside c.serve-served.ensures.same.0 c.end-keeper.ensures.pass c.in-Ok-meet.ensures.met c.close-site.ensures last.keeper.conn last.keeper.rows c.end-keeper.ensures.first
