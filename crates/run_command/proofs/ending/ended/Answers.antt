use Rattle.std.proofs.Common.{◌≡◌, ◌∙◌, ap, subst, sym}
use Rattle.sqlite.specs.Held.{Held, state}
use Rattle.inbox_table.specs.Calls.{KeptTable}
use Rattle.run_command.specs.Ending.{KeepsRest}
use Rattle.run_command.proofs.ending.ended.Goals as goal

pub returns-clause-kept : goal.returns-clause-kept
returns-clause-kept g c =
    let kept = c.keep_rest-stopped.new.keeper in
    let same : c.into_connection.result ≡ kept.conn = c.into_connection.ensures ∙ ap (λ (k : KeptTable _). k.conn) c.into_table.ensures in (
      kept.rows,
      subst (λ (z : Held _). KeepsRest (λ conn. state g.S.Store conn) c.args.closed.keeper (record { conn = z; rows = kept.rows }) c.args.closed.site c.args.closed.served c.args.closed.stopped c.keep_rest-stopped.result)
          (sym same) c.keep_rest-stopped.ensures.rest,
    )
