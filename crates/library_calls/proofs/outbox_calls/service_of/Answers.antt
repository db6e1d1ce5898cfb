use Rattle.std.proofs.Common.{◌∙◌, inl, inr, refl, sym}
use Rattle.library_calls.proofs.outbox_calls.service_of.Goals as goal

pub returns-in-Err : goal.returns-in-Err
returns-in-Err g c = inl (c.in-Err.refused.fault, c.outbox_status-status.ensures, c.in-Err.ensures.refused)

pub returns : goal.returns
returns g c =
    let other = c.is_meant.ensures.another c.if-is_meant.false in
    inr (c.in-Ok.service, refl, sym c.into_connection.ensures, record { opens = c.in-Ok.ensures.opened; is_given = other.0; other = λ is. other.1 (c.source.ensures.source ∙ is) })
