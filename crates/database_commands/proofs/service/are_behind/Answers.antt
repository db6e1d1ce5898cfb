use Rattle.std.proofs.Common.{◌∙◌, ◌<◌, ℕ, Some, ap, sym, rules}
use Rattle.databases.specs.Held.{IsBehind}
use Rattle.database_commands.proofs.RowLemmas.{each_next}
use Rattle.database_commands.proofs.service.are_behind.Goals as goal

pub loop-i-preserved : goal.loop-i-preserved
loop-i-preserved c =
    let more : c.args.after < c.number-in-loop-i.result = search rules in
    each_next (IsBehind c.args.after) c.loop-i.i c.args.events.now c.at.result.now c.at.ensures
    (c.number-in-loop-i.result, c.number.ensures ∙ ap (λ (n : ℕ). Some n) (sym c.number-in-loop-i.ensures.value), more) c.loop-i.invariant
