use Rattle.std.proofs.Common.{◌≡◌, rules}
use Rattle.databases.specs.declared.trouble.Trouble.TheVariants.{OutOfMemory}
use Rattle.site_commands.proofs.check.told_of.Goals as goal

pub returns-in_ok-text-in-Err : goal.returns-in_ok-text-in-Err
returns-in_ok-text-in-Err g c =
    let memory_is_there : c.in-Err.why ≡ OutOfMemory → ⊥ = search rules in
    (c.in-Err.why, memory_is_there, c.in-Err.ensures.name, c.in_ok-text-in-Err.ensures)
