use Rattle.std.proofs.Common.{sym, subst, Option}
use Rattle.std.proofs.lemmas.Result.{IfOk-weaker}
use Rattle.sqlite.specs.Held.{state}
use Rattle.inbox_table.specs.Calls.{KeptTable}
use Rattle.site_lock.specs.Pass.{Meets, ShownPass, leaves}
use Rattle.keeper.specs.Keep.{KeepsUp}
use Rattle.keeper.specs.declared.fault.KeepFault.{KeepFault}
use Rattle.run_command.specs.Shared.{IsClosed}
use Rattle.run_command.proofs.SharedLemmas.{closed}
use Rattle.run_command.proofs.shared.share.Goals as goal

pub returns-clause-ok : goal.returns-clause-ok
returns-clause-ok g c =
    let keeper = c.end-keeper.ensures.keeper in
    let own = c.end-keeper.ensures.pass in
    let flusher = c.serve-served.new.aside.flusher in
    let last = c.end-keeper.result in
    subst (λ (z : Option KeepFault). IsClosed (λ conn. state g.S.Store conn) c.args.keeper c.args.site c.args.jobs.feeds c.args.jobs.peers last.keeper c.close-site.result c.serve-served.result z) (sym c.end-keeper.ensures.fault)
    (subst (λ (z : KeptTable _). IsClosed (λ conn. state g.S.Store conn) c.args.keeper c.args.site c.args.jobs.feeds c.args.jobs.peers z c.close-site.result c.serve-served.result flusher.fault) (sym keeper)
    (closed _ _ _ (λ conn. state g.S.Store conn) c.first_arrivals_stay.ensures c.sets_are_members.ensures.is_found c.args.keeper c.args.site c.close-site.result
    c.args.jobs.feeds c.args.jobs.peers c.args.jobs.asks c.in-Ok.begun.shared c.in-Ok.begun.pass c.split.new.pass c.serve-served.new.pass c.meet.new.me c.in-Ok-split.own
    c.of-flusher.result flusher c.serve-served.result c.in-Ok.ensures.begun c.in-Ok-split.ensures.old c.in-Ok-split.ensures.new c.of-flusher.ensures.keeper c.of-flusher.ensures.pass
    c.serve-served.ensures.aside c.serve-served.ensures.same.0 c.serve-served.ensures.served
    (subst (λ (p : ShownPass). KeepsUp (state g.S.Store flusher.keeper.conn) flusher.keeper.rows (leaves p)) own
    (subst (λ (z : KeptTable _). KeepsUp (state g.S.Store z.conn) z.rows (leaves last.pass)) keeper c.end-keeper.ensures.first))
    (subst (λ (p : ShownPass). Meets c.serve-served.new.pass p c.meet.new.me) own c.in-Ok-meet.ensures.met)
    c.close-site.ensures))

pub returns-clause-gated : goal.returns-clause-gated
returns-clause-gated g c = IfOk-weaker c.serve-served.result _ _ (λ s it. (c.split.new.pass, c.serve-served.new.pass, it)) c.serve-served.ensures.served
