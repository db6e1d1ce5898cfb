use Rattle.std.proofs.Common.{sym, ◌∙◌}
use Rattle.site.proofs.SumLemmas.{has_number-set_of}
use Rattle.site.proofs.site.Site.digested.Goals as goal

pub digested-requires-clause-numbers : goal.digested-requires-clause-numbers
digested-requires-clause-numbers c source n =
    c.self.invariant.0 source n ∙ sym (has_number-set_of c.sets_are_members.ensures c.self.inside.inbox.arrivals c.arrived-arrived.ensures.events source n)
