use Rattle.std.proofs.Common.{◌≡◌, ◌∙◌, List, [], length, ap, subst, sym, inr}
use Rattle.std.proofs.lemmas.Result.{IfErr-weaker}
use Rattle.sqlite.specs.Held.{Held, state}
use Rattle.sqlite.specs.State.{HasCleanDisk, State}
use Rattle.attributes.specs.Event.{EventValue}
use Rattle.inbox.specs.KeyOrder.{key_cmp}
use Rattle.inbox.specs.Ordered.{append_new}
use Rattle.inbox_table.specs.Calls.{KeptTable}
use Rattle.keeper.specs.Keep.{Grows}
use Rattle.keeper.specs.steps.Flushes.{grows_none}
use Rattle.run_command.specs.Shared.{IsClosed}
use Rattle.run_command.proofs.EndLemmas.{blame, gated_run, grown, has_run, ran, says, settles}
use Rattle.run_command.proofs.ending.run_table.Goals as goal

pub returns-in-Ok-share : goal.returns-in-Ok-share
returns-in-Ok-share g c =
    let closed = c.in-Ok-share.closed in
    let held : List EventValue = append_new key_cmp [] c.args.events in
    let at : Held _ → State = λ conn. state g.S.Store conn in
    let is : IsClosed at c.in-Ok.kept.keeper held c.args.jobs.feeds c.args.jobs.peers closed.keeper closed.site closed.served closed.stopped =
    subst (λ (z : List EventValue). IsClosed at c.in-Ok.kept.keeper z c.args.jobs.feeds c.args.jobs.peers closed.keeper closed.site closed.served closed.stopped) c.in-Ok.ensures.site c.in-Ok-share.ensures.ok in
    let count : (HasCleanDisk (at c.in-Ok.kept.keeper.conn) → c.in-Ok.kept.keeper.rows ≡ length held) = λ clean.
    ap (λ (k : KeptTable _). k.rows) c.in-Ok.ensures.keeper ∙ c.requires.count (subst (λ (k : KeptTable _). HasCleanDisk (at k.conn)) c.in-Ok.ensures.keeper clean) in
    let last : KeptTable _ = record { conn = c.ended.result.conn; rows = c.ended.ensures.kept.0 } in
    record {
      left = inr (has_run at c.args.jobs.feeds c.args.jobs.peers held closed.site c.in-Ok.kept.keeper closed.keeper last closed.served closed.stopped c.ended.result.stopped c.len-feeds.result c.ended.result.outcome is c.ended.ensures.kept.1 count c.len-feeds.ensures c.ended.ensures.told);
      ran = λ clean. ran at c.args.jobs.feeds c.args.jobs.peers held closed.site c.in-Ok.kept.keeper closed.keeper last closed.served closed.stopped c.ended.result.stopped c.len-feeds.result c.ended.result.outcome is c.ended.ensures.kept.1 count c.len-feeds.ensures c.ended.ensures.told clean;
      settled = λ clean. settles at c.args.jobs.feeds c.args.jobs.peers held closed.site c.in-Ok.kept.keeper closed.keeper last closed.served closed.stopped c.ended.result.stopped c.len-feeds.result c.ended.result.outcome is c.ended.ensures.kept.1 count c.len-feeds.ensures c.ended.ensures.told clean;
      said = says at c.args.jobs.feeds c.args.jobs.peers held closed.site c.in-Ok.kept.keeper closed.keeper last closed.served closed.stopped c.ended.result.stopped c.len-feeds.result c.ended.result.outcome is c.ended.ensures.kept.1 count c.len-feeds.ensures c.ended.ensures.told;
      feed = IfErr-weaker c.ended.result.outcome _ _ (λ why h. h.0) (blame at c.args.jobs.feeds c.args.jobs.peers held closed.site c.in-Ok.kept.keeper closed.keeper last closed.served closed.stopped c.ended.result.stopped c.len-feeds.result c.ended.result.outcome is c.ended.ensures.kept.1 count c.len-feeds.ensures c.ended.ensures.told);
      database = IfErr-weaker c.ended.result.outcome _ _ (λ why h. h.1) (blame at c.args.jobs.feeds c.args.jobs.peers held closed.site c.in-Ok.kept.keeper closed.keeper last closed.served closed.stopped c.ended.result.stopped c.len-feeds.result c.ended.result.outcome is c.ended.ensures.kept.1 count c.len-feeds.ensures c.ended.ensures.told);
      gated = gated_run _ _ _ c.args.jobs.feeds c.args.jobs.peers c.args.jobs.asks closed.served c.len-feeds.result closed.site c.ended.result.stopped c.ended.result.outcome c.in-Ok-share.ensures.gated c.ended.ensures.told;
      grows = subst (λ (k : KeptTable _). Grows (at k.conn) (at c.ended.result.conn)) c.in-Ok.ensures.keeper (grown at c.args.jobs.feeds c.args.jobs.peers held closed.site c.in-Ok.kept.keeper closed.keeper last closed.served closed.stopped c.ended.result.stopped c.len-feeds.result c.ended.result.outcome is c.ended.ensures.kept.1 count c.len-feeds.ensures c.ended.ensures.told);
    }

pub returns-in-Err-share-clause-grows : goal.returns-in-Err-share-clause-grows
returns-in-Err-share-clause-grows g c =
    let back : c.in-Err-share.keeper ≡ c.args.table = c.in-Err-share.ensures.err ∙ c.in-Ok.ensures.keeper in
    let same : c.into_connection.result ≡ c.args.table.conn = c.into_connection.ensures ∙ ap (λ (k : KeptTable _). k.conn) (c.into_table.ensures ∙ back) in
    subst (λ (z : Held _). Grows (state g.S.Store c.args.table.conn) (state g.S.Store z)) (sym (ap (λ z. z.conn) c.unbegun.ensures ∙ same)) (grows_none _)

pub returns-in-Err-clause-grows : goal.returns-in-Err-clause-grows
returns-in-Err-clause-grows g c =
    let same : c.into_connection-in-Err.result ≡ c.args.table.conn = c.into_connection-in-Err.ensures ∙ ap (λ (k : KeptTable _). k.conn) c.in-Err.ensures.back in
    subst (λ (z : Held _). Grows (state g.S.Store c.args.table.conn) (state g.S.Store z)) (sym (ap (λ z. z.conn) c.unbegun-in-Err.ensures ∙ same)) (grows_none _)
