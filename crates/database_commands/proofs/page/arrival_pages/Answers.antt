use Rattle.std.proofs.Common.{◌≡◌, ◌∙◌, ap, drop}
use Rattle.sqlite.specs.Held.{state}
use Rattle.databases.specs.Held.{HasArrived, ShowsArrived}
use Rattle.database_commands.proofs.MadeLemmas.{look_made, made_says}
use Rattle.database_commands.proofs.page.arrival_pages.Goals as goal

pub returns-clause-did : goal.returns-clause-did
returns-clause-did g c =
    let held = c.held-conn.ensures in
    look_made (state g.S.Store c.args.conn) (state g.S.Store c.held-conn.result.conn) c.held-conn.result.outcome c.arrived_pages-outcome.result (λ es pages. pages ≡ drop c.args.after es) (ShowsArrived c.args.after)
    held.events held.left (λ none. (held.without none).0) held.foreign held.both held.fault
    (λ es pages is shows all holds. is ∙ ap (drop c.args.after) (shows all holds))
    c.arrived_pages-outcome.ensures

pub returns-clause-some : goal.returns-clause-some
returns-clause-some g c =
    made_says c.held-conn.result.outcome c.arrived_pages-outcome.result (λ es pages. pages ≡ drop c.args.after es) (HasArrived c.args.after)
    (λ es pages is. (es, is)) c.arrived_pages-outcome.ensures
