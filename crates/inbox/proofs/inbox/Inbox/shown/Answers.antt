use Rattle.std.proofs.Common.{◌<◌, ◌++◌, [], ◌∷◌, sym, ap, ◌∙◌, subst}
use Rattle.inbox.specs.Shown.{is_shown}
use Rattle.inbox.specs.Kept.{events}
use Rattle.inbox.proofs.ReadLemmas.{filter_kept, filter_left_out, item_at}
use Rattle.inbox.proofs.inbox.Inbox.shown.Goals.{then-is_shown+in_ok-copy+in_ok-push, else-is_shown}
use Rattle.inbox.proofs.inbox.Inbox.shown.Goals as goal

pub loop-i-preserved : goal.loop-i-preserved
loop-i-preserved c =
    elim c.if-is_shown.branch [
      | then-is_shown+in_ok-copy+in_ok-push w ↦
          w.batch-is ∙ w.in_ok-push.ensures.ok ∙ ap (λ e. c.loop-i.batch ++ e ∷ []) w.in_ok-copy.ensures ∙ ap (λ l. l ++ w.at.result.now ∷ []) c.loop-i.invariant
          ∙ sym (filter_kept (is_shown (events c.args.self.now)) (events c.args.self.now) c.loop-i.i w.at.result.now w.at.ensures (sym (c.is_shown.ensures _ w.at.ensures) ∙ w.if-is_shown.true))
      | else-is_shown w ↦
          let here = item_at (events c.args.self.now) c.loop-i.i (subst (λ n. c.loop-i.i < n) c.len-i-end.ensures c.loop-i-test.true) in
          w.batch-is ∙ c.loop-i.invariant
          ∙ sym (filter_left_out (is_shown (events c.args.self.now)) (events c.args.self.now) c.loop-i.i here.0 here.1 (sym (c.is_shown.ensures here.0 here.1) ∙ w.if-is_shown.false))
    ]
