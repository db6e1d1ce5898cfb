use Rattle.std.proofs.Common.{List, [], subst}
use Rattle.sqlite.specs.Held.{state}
use Rattle.attributes.specs.Event.{EventValue}
use Rattle.inbox.specs.KeyOrder.{key_cmp}
use Rattle.inbox.specs.Ordered.{append_new}
use Rattle.inbox.specs.Sets.{set_of}
use Rattle.databases.specs.Held.{SaysSummary, SaysSummaryOf, ShowsSummary}
use Rattle.database_commands.proofs.MadeLemmas.{look_made, made_says, once_shown}
use Rattle.database_commands.proofs.page.summary.Goals as goal

pub returns-clause-did : goal.returns-clause-did
returns-clause-did g c =
    let held = c.held-conn.ensures in
    look_made (state g.S.Store c.args.conn) (state g.S.Store c.held-conn.result.conn) c.held-conn.result.outcome c.summary_line-outcome.result (λ es. SaysSummaryOf (set_of (append_new key_cmp [] es))) ShowsSummary
    held.events held.left (λ none. (held.without none).0) held.foreign held.both held.fault
    (λ es text is shows all holds. subst (λ (l : List EventValue). SaysSummaryOf (set_of l) text) (once_shown _ es all shows holds) is)
    c.summary_line-outcome.ensures

pub returns-clause-line : goal.returns-clause-line
returns-clause-line g c =
    made_says c.held-conn.result.outcome c.summary_line-outcome.result (λ es. SaysSummaryOf (set_of (append_new key_cmp [] es))) SaysSummary
    (λ es text is. (append_new key_cmp [] es, is)) c.summary_line-outcome.ensures
