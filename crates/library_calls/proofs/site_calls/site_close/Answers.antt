use Rattle.std.proofs.Common.{subst, sym}
use Rattle.durable_site.specs.Files.{Closes}
use Rattle.library_calls.specs.Rooms.{LetsGo}
use Rattle.library_calls.proofs.site_calls.site_close.Goals as goal

pub returns-in-File : goal.returns-in-File
returns-in-File c = subst (λ o. LetsGo o) (sym c.in-File.is) (subst (λ z. Closes z) c.into_connection.ensures c.close.ensures)
