use Rattle.std.proofs.Common.{inr}
use Rattle.library_calls.proofs.number_calls.served.Goals as goal

pub returns-in-Ok-open : goal.returns-in-Ok-open
returns-in-Ok-open c = record {
  first = c.in-Ok.conn;
  over = c.in-Ok.ensures.over;
  base_is = c.in-Ok-open.ensures.base;
  opens = c.in-Ok-open.ensures.opens;
  crash = c.in-Ok-open.ensures.crash;
}

pub returns-in-Err-open : goal.returns-in-Err-open
returns-in-Err-open c = inr (record {
  first = c.in-Ok.conn;
  last = c.in-Err-open.refused.conn;
  over = c.in-Ok.ensures.over;
  why = c.in-Err-open.refused.fault;
  is = c.refused_status.ensures.status;
  rejects = c.in-Err-open.ensures.rejects;
  foreign = c.in-Err-open.ensures.foreign;
  crash = c.in-Err-open.ensures.crash_refused;
  closes = c.refused_status.ensures.closes;
})
