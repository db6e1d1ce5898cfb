use Rattle.std.proofs.Common.{◌≡◌, ◌∙◌, List, ap}
use Rattle.sqlite.specs.Held.{state}
use Rattle.attributes.specs.Event.{EventValue}
use Rattle.site.specs.Page.{page}
use Rattle.databases.specs.Held.{SaysArrivals, ShowsArrivals}
use Rattle.databases.specs.Print.{batch_line}
use Rattle.database_commands.proofs.MadeLemmas.{look_made, made_says}
use Rattle.database_commands.proofs.page.arrivals.Goals as goal

pub returns-clause-did : goal.returns-clause-did
returns-clause-did g c =
    let held = c.held-conn.ensures in
    look_made (state g.S.Store c.args.conn) (state g.S.Store c.held-conn.result.conn) c.held-conn.result.outcome c.arrivals_line-outcome.result (λ es text. text ≡ batch_line (page es c.args.after 100)) (ShowsArrivals c.args.after)
    held.events held.left (λ none. (held.without none).0) held.foreign held.both held.fault
    (λ es text is shows all holds. is ∙ ap (λ (l : List EventValue). batch_line (page l c.args.after 100)) (shows all holds))
    c.arrivals_line-outcome.ensures

pub returns-clause-line : goal.returns-clause-line
returns-clause-line g c =
    made_says c.held-conn.result.outcome c.arrivals_line-outcome.result (λ es text. text ≡ batch_line (page es c.args.after 100)) (SaysArrivals c.args.after)
    (λ es text is. (es, is)) c.arrivals_line-outcome.ensures
