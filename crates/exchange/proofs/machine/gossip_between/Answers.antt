use Rattle.std.proofs.Common.{rules, ◌≢◌, [], take, subst}
use Rattle.inbox.specs.Sets.{set_of}
use Rattle.exchange.specs.Lacking.{lacking}
use Rattle.exchange.specs.Schedule.{IsCutShort}
use Rattle.exchange.proofs.StandingLemmas.{between}
use Rattle.exchange.proofs.machine.gossip_between.Goals as goal

pub returns-in-Ok-clause-gives : goal.returns-in-Ok-clause-gives
returns-in-Ok-clause-gives c =
    let at = between c.args.hosts.now.items c.args.from c.args.to _ c.index_mut.result.now c.index.result.now c.replace-site.new.dest c.replace-site.result c.args.hosts.now.ok.0
    c.requires.giver c.requires.taker c.requires.others c.index_mut.ensures.value c.index.ensures c.replace-site.ensures.value in
    at.given c.index_mut-2.result.now c.gossip-done.new.to (λ A B. lacking (set_of A) (set_of B)) c.index_mut-2.ensures.value c.in-Ok.ensures.brings.arrivals c.in-Ok.ensures.brings.set

pub returns-in-Err : goal.returns-in-Err
returns-in-Err c =
    let at = between c.args.hosts.now.items c.args.from c.args.to _ c.index_mut.result.now c.index.result.now c.replace-site.new.dest c.replace-site.result c.args.hosts.now.ok.0
    c.requires.giver c.requires.taker c.requires.others c.index_mut.ensures.value c.index.ensures c.replace-site.ensures.value in
    let n = c.in-Err.short.taken in
    record {
      sites = search rules;
      gives = at.given c.index_mut-2.result.now c.gossip-done.new.to (λ A B. take n (lacking (set_of A) (set_of B))) c.index_mut-2.ensures.value c.in-Err.ensures.brings.short c.in-Err.ensures.brings.short_set;
      short = subst (IsCutShort n) (λ k. lacking (set_of (at.other k)) (set_of (at.named k))) c.in-Err.ensures.short_taken;
      giver = subst (λ A. set_of A ≢ []) at.other c.in-Err.ensures.short_of_events;
    }
