use Rattle.std.proofs.Common.{◌<◌, length, ap, subst}
use Rattle.inbox.specs.Sets.{set_of}
use Rattle.exchange.specs.Schedule.{IsShortOfNext}
use Rattle.exchange.proofs.StandingLemmas.{own_site, short_of_next}
use Rattle.exchange.proofs.machine.deliver.Goals as goal

pub returns-in-Err-clause-short : goal.returns-in-Err-clause-short
returns-in-Err-clause-short c =
    let hosts = c.args.hosts.now.items in
    let h = c.index_mut-host.result.now in
    let to_in : c.args.to < length hosts = subst (λ n. c.args.to < n) c.args.hosts.now.ok.0 c.requires in
    let n = c.in-Err.short.taken in
    subst (λ E. IsShortOfNext E n c.args.batch.now) (ap set_of (own_site hosts c.args.to h to_in c.index_mut-host.ensures.value))
    (short_of_next c.sets_are_members.ensures c.take_copies.new.self (set_of h.site) c.args.batch.now n c.in-Err.ensures.short_taken c.in-Err.ensures.brings.short_set c.in-Err.ensures.short_of_new)
