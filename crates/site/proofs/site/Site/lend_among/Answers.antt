use Rattle.std.proofs.Common.{◌++◌, drop, sym, ap, ◌∙◌, arith}
use Rattle.std.proofs.lemmas.Result.{err_from_is_err_and}
use Rattle.inbox.specs.Sets.{set_of}
use Rattle.site.specs.Delta.{lacking_of}
use Rattle.site.proofs.AmongLemmas.{page_filled, skipped_to}
use Rattle.site.proofs.site.Site.lend_among.Goals as goal

pub returns-in_err-push_wanted-clause-err : goal.returns-in_err-push_wanted-clause-err
returns-in_err-push_wanted-clause-err c =
    let E = set_of c.args.self.now in
    let peer = c.args.peer.now in
    let exit = err_from_is_err_and c.from_residual.result c.from_residual.ensures.1 in
    let skip = skipped_to E peer c.args.among.now c.loop-at.at c.next_before-at.result c.requires.all c.next_before-at.ensures.later (omega (arith, c.next_before-at.ensures.within, c.len-len.ensures)) c.next_before-at.ensures.none in
    rw exit.1 (page_filled c.args.limit c.loop-at.events (lacking_of E peer (drop c.next_before-at.result E)) (lacking_of E peer (drop c.args.place E))
    (omega (arith, c.if-len-limit.true, c.len.ensures)) (ap (λ l. c.loop-at.events ++ l) (sym skip) ∙ c.loop-at.invariant.whole) c.in_err-push_wanted.ensures.err)

pub loop-at-preserved-then-at-len : goal.loop-at-preserved-then-at-len
loop-at-preserved-then-at-len c =
    let E = set_of c.args.self.now in
    let peer = c.args.peer.now in
    let skip = skipped_to E peer c.args.among.now c.loop-at.at c.next_before-at.result c.requires.all c.next_before-at.ensures.later (omega (arith, c.next_before-at.ensures.within, c.len-len.ensures)) c.next_before-at.ensures.none in
    record {
      at_in = omega (arith, c.if-at-len.true, c.len-len.ensures);
      within = omega (arith, c.in_ok-push_wanted.ensures.one, c.if-len-limit.true, c.len.ensures);
      behind = omega (arith, c.in_ok-push_wanted.ensures.one, c.loop-at.invariant.behind, c.next_before-at.ensures.later);
      whole = c.in_ok-push_wanted.ensures.ok ∙ ap (λ l. c.loop-at.events ++ l) (sym skip) ∙ c.loop-at.invariant.whole;
    }

pub loop-at-preserved : goal.loop-at-preserved
loop-at-preserved c =
    let E = set_of c.args.self.now in
    let peer = c.args.peer.now in
    let skip = skipped_to E peer c.args.among.now c.loop-at.at c.next_before-at.result c.requires.all c.next_before-at.ensures.later (omega (arith, c.next_before-at.ensures.within, c.len-len.ensures)) c.next_before-at.ensures.none in
    record {
      at_in = omega (arith, c.next_before-at.ensures.within, c.len-len.ensures);
      within = c.loop-at.invariant.within;
      behind = omega (arith, c.loop-at.invariant.behind, c.next_before-at.ensures.later);
      whole = ap (λ l. c.loop-at.events ++ l) (sym skip) ∙ c.loop-at.invariant.whole;
    }
