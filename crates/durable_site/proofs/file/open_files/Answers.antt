use Rattle.std.proofs.Common.{inl, inr}
use Rattle.durable_site.proofs.file.open_files.Goals as goal

pub returns-in-Err-clause-refused : goal.returns-in-Err-clause-refused
returns-in-Err-clause-refused g c = inl c.in-Err.ensures.refused

pub returns-in-Err-open-clause-refused : goal.returns-in-Err-open-clause-refused
returns-in-Err-open-clause-refused g c = inr (record {
  first = c.in-Ok.conn;
  last = c.in-Err-open.refused.conn;
  over = c.in-Ok.ensures.over;
  why = c.in-Err-open.refused.fault;
  is = c.fault_of.ensures.fault;
  rejects = c.in-Err-open.ensures.rejects;
  crash = c.in-Err-open.ensures.crash_refused;
  closes = c.fault_of.ensures.closes;
})
