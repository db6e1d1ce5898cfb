use Rattle.std.proofs.Common.{◌+◌, ◌++◌, ◌∷◌, [], drop, sym, ap, ◌∙◌, append_assoc}
use Rattle.std.proofs.lemmas.Result.{err_from_is_err_and}
use Rattle.inbox.specs.Sets.{set_of}
use Rattle.site.specs.Delta.{is_lacking, lacking_of}
use Rattle.site.proofs.AmongLemmas.{filled}
use Rattle.site.proofs.DeltaLemmas.{filter_kept, filter_left_out}
use Rattle.site.proofs.site.Site.push_wanted.Goals as goal

pub returns-in_err-push-clause-err : goal.returns-in_err-push-clause-err
returns-in_err-push-clause-err c =
    let E = set_of c.args.self.now in
    let x = c.at-event.result.now in
    let exit = err_from_is_err_and c.from_residual.result c.from_residual.ensures.1 in
    let first = filter_kept (is_lacking E c.args.peer.now) E c.args.at x c.at-event.ensures (c.requires.tells x ∙ sym c.is_wanting.ensures ∙ c.if-is_wanting.true) in
    rw exit.1 (filled (lacking_of E c.args.peer.now (drop c.args.at E)) x (lacking_of E c.args.peer.now (drop (c.args.at + 1) E)) first)

pub returns-in_ok-push-clause-ok : goal.returns-in_ok-push-clause-ok
returns-in_ok-push-clause-ok c =
    let E = set_of c.args.self.now in
    let x = c.at-event.result.now in
    let old = c.args.events.now in
    let R = lacking_of E c.args.peer.now (drop (c.args.at + 1) E) in
    let first = filter_kept (is_lacking E c.args.peer.now) E c.args.at x c.at-event.ensures (c.requires.tells x ∙ sym c.is_wanting.ensures ∙ c.if-is_wanting.true) in
    ap (λ l. l ++ R) c.in_ok-push.ensures.ok ∙ append_assoc old (x ∷ []) R ∙ ap (λ l. old ++ l) (sym first)

pub returns-else-is_wanting-clause-ok : goal.returns-else-is_wanting-clause-ok
returns-else-is_wanting-clause-ok c =
    let E = set_of c.args.self.now in
    let x = c.at-event.result.now in
    ap (λ l. c.args.events.now ++ l) (sym (filter_left_out (is_lacking E c.args.peer.now) E c.args.at x c.at-event.ensures (c.requires.tells x ∙ sym c.is_wanting.ensures ∙ c.if-is_wanting.false)))
