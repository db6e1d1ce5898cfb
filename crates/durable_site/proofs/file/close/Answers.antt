use Rattle.std.proofs.Common.{inl, inr}
use Rattle.durable_site.proofs.file.close.Goals as goal

pub returns-in-Ok : goal.returns-in-Ok
returns-in-Ok g c =
    let last = c.in-Ok.ensures.ok in
    (last.0, last.2, inl (c.in-Ok.files, c.in-Ok.ensures.copied))

pub returns-in-Err : goal.returns-in-Err
returns-in-Err g c = (c.in-Err.store, c.in-Err.ensures.err.0, inr (_, c.in-Err.ensures.err.1))
