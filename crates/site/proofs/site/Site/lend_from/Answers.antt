use Rattle.std.proofs.Common.{◌≡◌, ◌≤◌, ◌<◌, ◌+◌, ◌-◌, ◌∷◌, ◌++◌, [], length, take, drop, sym, ap, ◌∙◌, subst, arith, length-append}
use Rattle.std.proofs.lemmas.Result.{err_from_is_err_and}
use Rattle.inbox.specs.Sets.{set_of}
use Rattle.site.specs.Delta.{is_lacking, lacking_of}
use Rattle.site.proofs.PageLemmas.{page_has, page_more, rest_more}
use Rattle.site.proofs.DeltaLemmas.{filter_kept, filter_left_out}
use Rattle.site.proofs.site.Site.lend_from.Goals as goal
use Rattle.site.proofs.site.Site.lend_from.Goals.{then-is_wanting+in_ok-push, else-is_wanting}

pub returns-in_err-push-clause-err : goal.returns-in_err-push-clause-err
returns-in_err-push-clause-err c =
    let E = set_of c.args.self.now in
    let peer = c.args.peer.now in
    let exit = err_from_is_err_and c.from_residual.result c.from_residual.ensures.1 in
    let first = filter_kept (is_lacking E peer) E c.loop-i.i c.at-event.result.now c.at-event.ensures (c.requires.tells c.at-event.result.now ∙ sym c.is_wanting.ensures ∙ c.if-is_wanting.true) in
    let less : length c.loop-i.events < c.args.limit = omega (arith, c.loop-i.invariant.within, c.if-len-limit.false, c.len.ensures) in
    rw exit.1 (page_has c.args.limit c.loop-i.events (lacking_of E peer (drop c.loop-i.i E)) (take c.args.limit (lacking_of E peer (drop c.args.place E))) c.at-event.result.now (lacking_of E peer (drop (c.loop-i.i + 1) E)) first less c.loop-i.invariant.page)

pub loop-i-preserved : goal.loop-i-preserved
loop-i-preserved c =
    let E = set_of c.args.self.now in
    let peer = c.args.peer.now in
    let e = c.at-event.result.now in
    let b = c.loop-i.events in
    let rest = lacking_of E peer (drop (c.loop-i.i + 1) E) in
    let T = take c.args.limit (lacking_of E peer (drop c.args.place E)) in
    let D = drop c.args.limit (lacking_of E peer (drop c.args.place E)) in
    let less : length b < c.args.limit = omega (arith, c.loop-i.invariant.within, c.if-len-limit.false, c.len.ensures) in
    elim c.if-is_wanting.branch [
      | then-is_wanting+in_ok-push w ↦
          let first = filter_kept (is_lacking E peer) E c.loop-i.i e c.at-event.ensures (c.requires.tells c.at-event.result.now ∙ sym c.is_wanting.ensures ∙ w.if-is_wanting.true) in
          let same : c.if-is_wanting.events ≡ b ++ e ∷ [] = w.events-is ∙ w.in_ok-push.ensures.ok in
          record {
            within = omega (arith, ap length same, length-append b (e ∷ []), less);
            behind = omega (arith, ap length same, length-append b (e ∷ []), c.loop-i.invariant.behind);
            page = subst (λ l. l ++ take (c.args.limit - length l) rest ≡ T) (sym same) (page_more c.args.limit b (lacking_of E peer (drop c.loop-i.i E)) T e rest first less c.loop-i.invariant.page);
            rest = subst (λ l. drop (c.args.limit - length l) rest ≡ D) (sym same) (rest_more c.args.limit b (lacking_of E peer (drop c.loop-i.i E)) D e rest first less c.loop-i.invariant.rest);
          }
      | else-is_wanting w ↦
          let first = filter_left_out (is_lacking E peer) E c.loop-i.i e c.at-event.ensures (c.requires.tells c.at-event.result.now ∙ sym c.is_wanting.ensures ∙ w.if-is_wanting.false) in
          record {
            within = subst (λ l. length l ≤ c.args.limit) (sym w.events-is) c.loop-i.invariant.within;
            behind = omega (arith, ap length w.events-is, c.loop-i.invariant.behind);
            page = subst (λ l. l ++ take (c.args.limit - length l) rest ≡ T) (sym w.events-is) (ap (λ m. b ++ take (c.args.limit - length b) m) (sym first) ∙ c.loop-i.invariant.page);
            rest = subst (λ l. drop (c.args.limit - length l) rest ≡ D) (sym w.events-is) (ap (drop (c.args.limit - length b)) (sym first) ∙ c.loop-i.invariant.rest);
          }
    ]
