use Rattle.std.proofs.Common.{slice_get, sym, ap, ◌∙◌}
use Rattle.std.proofs.lemmas.Option.{get_or_from_slice_get}
use Rattle.inbox.specs.Sets.{set_of}
use Rattle.inbox.specs.steps.Woven.{order}
use Rattle.inbox.proofs.ReadLemmas.{read_at}
use Rattle.inbox.proofs.search.position_at.Goals as goal

pub returns : goal.returns
returns c =
    let positions = order c.args.places.now in
    let p = c.at.result in
    ap (λ q. slice_get c.args.arrivals.now q) (sym (get_or_from_slice_get positions c.args.i p p c.at.ensures))
    ∙ read_at c.args.arrivals.now positions (set_of c.args.arrivals.now) c.args.i p c.requires.reads c.requires.in_range
