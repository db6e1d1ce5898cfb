use Rattle.std.proofs.Common.{◌∙◌, inl, inr, suc, IsTrue, subst, sym}
use Rattle.std.proofs.lemmas.Result.{IfErr-weaker, IfOk-weaker}
use Rattle.sqlite.specs.Held.{state}
use Rattle.sqlite.specs.State.{HasCleanDisk}
use Rattle.outbox.specs.Call.{IsSettled}
use Rattle.outbox.specs.Order.{Accepted}
use Rattle.databases.specs.Held.{KeepsEvents, KeepsService, LeavesOrOrders, Orders}
use Rattle.databases.proofs.BesideLemmas.{events_beside, events_over, events_same}
use Rattle.databases.proofs.HeldLemmas.{either_way, on_err, on_ok, on_okay}
use Rattle.database_commands.proofs.ServedLemmas.{kept_all, kept_served, leaves_or_orders, made_or_orders, not_another, not_to_be_had, ordered, refused_order}
use Rattle.database_commands.proofs.service.order.Goals as goal

pub returns-in-Ok-clause-did : goal.returns-in-Ok-clause-did
returns-in-Ok-clause-did g c =
    let old = (state g.S.Store c.args.conn).now in
    let mid = c.in-Ok.service in
    let last = c.command_line-outcome.new.service in
    let it : Accepted = record { status = c.args.status; order = c.args.order; at = c.args.at.now } in
    let back = c.into_connection-conn.ensures in
    let did = c.command_line-outcome.ensures in
    let late : (HasCleanDisk (state g.S.Store c.into_connection-conn.result) → HasCleanDisk (state g.S.Store last.conn)) = subst (λ h. HasCleanDisk (state g.S.Store h)) back in
    let still : (IsTrue (state g.S.Store c.into_connection-conn.result).is_open → IsTrue (state g.S.Store last.conn).is_open) = subst (λ h. IsTrue (state g.S.Store h).is_open) back in
    record {
      ordered = λ clean. IfOk-weaker c.command_line-outcome.result _ _
          (λ text done. subst (λ h. Orders c.args.source.now it old (state g.S.Store h).now text) (sym back)
          (ordered c.args.source.now old (state g.S.Store mid.conn).now mid.source mid.base (c.in-Ok.ensures.served (did.clean (late clean))) (state g.S.Store last.conn).now it done.0 text done.2 done.1))
          (did.accepted (late clean));
      kept = λ clean is_open. on_err c.command_line-outcome.result _ _
          (λ same. subst (λ h. KeepsService c.args.source.now old (state g.S.Store h).now) (sym back)
          (kept_served c.args.source.now old (state g.S.Store mid.conn).now mid.source mid.base (c.in-Ok.ensures.served (did.clean (late clean))) (state g.S.Store last.conn).now (same (late clean) (still is_open))))
          did.same;
      untouched = IfErr-weaker c.command_line-outcome.result _ _ (λ f so is. absurd (not_another so.0 (sym so.1 ∙ is))) did.fault;
      refused = λ clean is_open. IfErr-weaker c.command_line-outcome.result _ _
          (λ f refuses no_memory no_store _ _. refused_order c.args.source.now old (state g.S.Store mid.conn).now mid.source mid.base (c.in-Ok.ensures.served (did.clean (late clean))) c.args.status c.args.order f (refuses no_memory no_store))
          (did.refused (late clean) (still is_open));
      another = IfErr-weaker c.command_line-outcome.result _ _ (λ f so is. absurd (not_another so.0 (sym so.1 ∙ is))) did.fault;
      fault = IfErr-weaker c.command_line-outcome.result _ _ (λ f so. inr so) did.fault;
      meant = λ named clean. on_ok c.command_line-outcome.result _ (λ s b commands h. sym (c.in-Ok.ensures.served (did.clean (late clean)) s b commands h).0 ∙ c.in-Ok.ensures.named named);
      stays_open = λ clean. on_okay c.command_line-outcome.result _ _ (λ is_open. subst (λ h. IsTrue (state g.S.Store h).is_open) (sym back) is_open) (did.stays_open (late clean));
      settled = λ clean. on_okay c.command_line-outcome.result _ _ (λ leaves. subst (λ h. IsSettled (state g.S.Store h)) (sym back) leaves) (did.settled (late clean));
      clean = λ clean. c.in-Ok.ensures.clean (did.clean (late clean));
      crash = subst (λ h. LeavesOrOrders c.args.source.now it (state g.S.Store c.args.conn) (state g.S.Store h)) (sym back)
          (leaves_or_orders c.args.source.now it (state g.S.Store c.args.conn) (state g.S.Store mid.conn) (state g.S.Store last.conn) mid.source mid.base c.in-Ok.ensures.crash c.in-Ok.ensures.served c.in-Ok.ensures.beside c.in-Ok.ensures.stays_open did.clean did.crash);
      beside = λ clean is_open.
          let first = c.in-Ok.ensures.beside (did.clean (late clean)) in
          subst (λ h. KeepsEvents old (state g.S.Store h).now) (sym back)
          (either_way c.command_line-outcome.result _
          (on_okay c.command_line-outcome.result _ _ (λ keeps. events_over old (state g.S.Store mid.conn).now (state g.S.Store last.conn).now first (events_beside (state g.S.Store mid.conn).now (state g.S.Store last.conn).now keeps)) (did.beside (late clean)))
          (on_err c.command_line-outcome.result _ _ (λ same. events_over old (state g.S.Store mid.conn).now (state g.S.Store last.conn).now first (events_same (state g.S.Store mid.conn).now (state g.S.Store last.conn).now (same (late clean) (still is_open)))) did.same));
    }

pub returns-in-Ok-clause-line : goal.returns-in-Ok-clause-line
returns-in-Ok-clause-line g c =
    let mid = c.in-Ok.service in
    IfOk-weaker c.command_line-outcome.result _ _
    (λ text line. record { source = mid.source; number = suc mid.last; meant = c.in-Ok.ensures.named; line = line })
    c.command_line-outcome.ensures.line

pub returns-in-Err-clause-did : goal.returns-in-Err-clause-did
returns-in-Err-clause-did g c = record {
  ordered = λ clean. tt;
  kept = λ clean still. kept_all c.args.source.now (state g.S.Store c.args.conn).now (state g.S.Store c.in-Err.refused.conn).now (c.in-Err.ensures.back clean still);
  untouched = λ is. c.in-Err.ensures.back;
  refused = λ clean still no_memory no_store no_foreign no_other. absurd (elim c.in-Err.ensures.fault [
    | inl is ↦ no_memory is
    | inr (inl is) ↦ no_store is
    | inr (inr (inl is)) ↦ no_foreign is
    | inr (inr (inr is)) ↦ no_other is
  ]);
  another = c.in-Err.ensures.another;
  fault = not_to_be_had c.in-Err.refused.fault c.in-Err.ensures.fault;
  meant = λ named clean. tt;
  beside = λ clean still. events_same _ _ (c.in-Err.ensures.back clean still);
  stays_open = λ clean. tt;
  settled = λ clean. tt;
  clean = c.in-Err.ensures.clean_refused;
  crash = made_or_orders c.args.source.now _ (state g.S.Store c.args.conn) (state g.S.Store c.in-Err.refused.conn) c.in-Err.ensures.crash_refused;
}
