use Rattle.std.specs.Prelude.{Some}
use Rattle.site.specs.Desk.{summed}
use Rattle.site.specs.Machine.{call}
use Rattle.site.specs.declared.call.Command.TheVariants as command
use Rattle.site_lock.proofs.shared.SharedSite.summary.Given as goal

abbrev pub ghosts-end : goal.ghosts-end
ghosts-end g a = record { call = Some (call (command.Summary) (summed a.reply.now)) }
