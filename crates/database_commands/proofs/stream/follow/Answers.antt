use Rattle.std.proofs.Common.{ap, arith, inl, subst}
use Rattle.sqlite.specs.Held.{state}
use Rattle.sqlite.specs.State.{HasCleanDisk}
use Rattle.databases.proofs.BesideLemmas.{service_same}
use Rattle.database_commands.proofs.StreamLemmas.{stays_unread, stream_beside, stream_followed, stream_settled, stream_stops, stream_told, stream_until, tells_none}
use Rattle.database_commands.proofs.stream.follow.Goals as goal

pub returns-in-Ok : goal.returns-in-Ok
returns-in-Ok g c =
    record {
      followed = stream_followed c.follow-ended.result c.outcome_of-outcome.result _ _ (state g.S.Store c.args.conn).now (state g.S.Store c.in-Ok.table.conn) (state g.S.Store c.follow-ended.new.table.conn) _
          (ap (state g.S.Store) c.into_connection-conn.ensures) c.outcome_of-outcome.ensures c.in-Ok.ensures.held c.follow-ended.ensures.clean c.follow-ended.ensures.followed;
      settled = stream_settled c.follow-ended.result c.outcome_of-outcome.result (state g.S.Store c.follow-ended.new.table.conn) _
          (ap (state g.S.Store) c.into_connection-conn.ensures) c.outcome_of-outcome.ensures c.follow-ended.ensures.settled;
      stops = stream_stops c.follow-ended.result c.outcome_of-outcome.result _ _ _ _ (state g.S.Store c.args.conn) (state g.S.Store c.in-Ok.table.conn) (state g.S.Store c.follow-ended.new.table.conn) _
          (ap (state g.S.Store) c.into_connection-conn.ensures) c.outcome_of-outcome.ensures c.in-Ok.ensures.held c.follow-ended.ensures.clean
          (λ clean trees left. c.in-Ok.ensures.crash.crash clean trees (left (c.in-Ok.ensures.stays_open clean))) c.follow-ended.ensures.stops;
      told = stream_told c.follow-ended.result c.outcome_of-outcome.result _ _ _ c.outcome_of-outcome.ensures c.follow-ended.ensures.told;
      until = stream_until c.follow-ended.result c.outcome_of-outcome.result _ _ _ c.outcome_of-outcome.ensures c.follow-ended.ensures.until;
      beside = stream_beside (state g.S.Store c.args.conn).now (state g.S.Store c.in-Ok.table.conn) (state g.S.Store c.follow-ended.new.table.conn) _
          (ap (state g.S.Store) c.into_connection-conn.ensures) c.in-Ok.ensures.beside c.follow-ended.ensures.clean c.follow-ended.ensures.beside;
      clean = λ clean.
          let late : HasCleanDisk (state g.S.Store c.follow-ended.new.table.conn) = subst (λ h. HasCleanDisk (state g.S.Store h)) c.into_connection-conn.ensures clean in
          omega (arith, c.in-Ok.ensures.crash.clean, c.follow-ended.ensures.clean late);
    }

pub returns-in-Err-clause-stops : goal.returns-in-Err-clause-stops
returns-in-Err-clause-stops g c = inl (stays_unread _ _ _ _ c.in-Err.refused.fault c.of_table.result c.of_table.ensures c.in-Err.ensures.back c.in-Err.ensures.foreign c.in-Err.ensures.both)

pub returns-in-Err-clause-until : goal.returns-in-Err-clause-until
returns-in-Err-clause-until g c = tells_none _ _

pub returns-in-Err-clause-beside : goal.returns-in-Err-clause-beside
returns-in-Err-clause-beside g c clean still = service_same _ _ (c.in-Err.ensures.back clean still)

pub returns-in-Err-clause-clean : goal.returns-in-Err-clause-clean
returns-in-Err-clause-clean g c clean = omega (arith, c.in-Err.ensures.crash_refused.clean, clean)
