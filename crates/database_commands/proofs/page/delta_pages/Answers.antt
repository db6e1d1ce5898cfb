use Rattle.std.proofs.Common.{◌≡◌, ◌∙◌, List, [], ap}
use Rattle.sqlite.specs.Held.{state}
use Rattle.attributes.specs.Event.{EventValue}
use Rattle.inbox.specs.KeyOrder.{key_cmp}
use Rattle.inbox.specs.Ordered.{append_new}
use Rattle.inbox.specs.Sets.{set_of}
use Rattle.site.specs.Delta.{delta}
use Rattle.databases.specs.Held.{HasDelta, ShowsLacking}
use Rattle.database_commands.proofs.MadeLemmas.{look_made, made_says, once_shown}
use Rattle.database_commands.proofs.page.delta_pages.Goals as goal

pub returns-clause-did : goal.returns-clause-did
returns-clause-did g c =
    let held = c.held-conn.ensures in
    look_made (state g.S.Store c.args.conn) (state g.S.Store c.held-conn.result.conn) c.held-conn.result.outcome c.lacking_pages-outcome.result (λ es pages. pages ≡ delta (set_of (append_new key_cmp [] es)) c.args.summary) (ShowsLacking c.args.summary)
    held.events held.left (λ none. (held.without none).0) held.foreign held.both held.fault
    (λ es pages is shows all holds. is ∙ ap (λ (l : List EventValue). delta (set_of l) c.args.summary) (once_shown _ es all shows holds))
    c.lacking_pages-outcome.ensures

pub returns-clause-some : goal.returns-clause-some
returns-clause-some g c =
    made_says c.held-conn.result.outcome c.lacking_pages-outcome.result (λ es pages. pages ≡ delta (set_of (append_new key_cmp [] es)) c.args.summary) (HasDelta c.args.summary)
    (λ es pages is. (append_new key_cmp [] es, is)) c.lacking_pages-outcome.ensures
