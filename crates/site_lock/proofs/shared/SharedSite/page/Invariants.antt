use Rattle.std.specs.Prelude.{Some}
use Rattle.site.specs.Desk.{paged}
use Rattle.site.specs.Machine.{call}
use Rattle.site.specs.declared.call.Command.TheVariants as command
use Rattle.site_lock.proofs.shared.SharedSite.page.Given as goal

abbrev pub ghosts-end : goal.ghosts-end
ghosts-end g a = record { call = Some (call (command.Page a.command.now.0 a.command.now.1) (paged a.reply.now)) }
