use Rattle.std.proofs.Common.{rules, take, ap, subst}
use Rattle.inbox.specs.Sets.{set_of}
use Rattle.exchange.specs.Schedule.{IsShortOfNext}
use Rattle.exchange.specs.steps.Given.{site_at}
use Rattle.exchange.proofs.StandingLemmas.{between, short_of_next}
use Rattle.exchange.proofs.machine.scrub_between.Goals as goal

pub returns-in-Ok-clause-gives : goal.returns-in-Ok-clause-gives
returns-in-Ok-clause-gives c =
    let at = between c.args.hosts.now.items c.args.from c.args.to _ c.index_mut.result.now c.index.result.now c.replace-site.new.dest c.replace-site.result c.args.hosts.now.ok.0
    c.requires.giver c.requires.taker c.requires.others c.index_mut.ensures.value c.index.ensures c.replace-site.ensures.value in
    at.given c.index_mut-2.result.now c.scrub-done.new.to (λ A B. set_of A) c.index_mut-2.ensures.value c.in-Ok.ensures.brings.arrivals c.in-Ok.ensures.brings.set

pub returns-in-Err : goal.returns-in-Err
returns-in-Err c =
    let at = between c.args.hosts.now.items c.args.from c.args.to _ c.index_mut.result.now c.index.result.now c.replace-site.new.dest c.replace-site.result c.args.hosts.now.ok.0
    c.requires.giver c.requires.taker c.requires.others c.index_mut.ensures.value c.index.ensures c.replace-site.ensures.value in
    let n = c.in-Err.short.taken in
    let giver = set_of c.index.result.now.site in
    let short = short_of_next c.sets_are_members.ensures c.scrub-done.new.to (set_of c.replace-site.result) giver n c.in-Err.ensures.short_taken c.in-Err.ensures.brings.short_set c.in-Err.ensures.short_of_new in
    record {
      sites = search rules;
      gives = at.given c.index_mut-2.result.now c.scrub-done.new.to (λ A B. take n (set_of A)) c.index_mut-2.ensures.value c.in-Err.ensures.brings.short c.in-Err.ensures.brings.short_set;
      short = subst (λ F. IsShortOfNext (set_of (site_at c.args.hosts.now.items c.args.to)) n F) (ap set_of at.other) (subst (λ E. IsShortOfNext E n giver) (ap set_of at.named) short);
    }
