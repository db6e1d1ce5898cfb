use Rattle.std.proofs.Common.{◌≡◌, ◌∙◌, List, [], ap}
use Rattle.sqlite.specs.Held.{state}
use Rattle.attributes.specs.Event.{EventValue}
use Rattle.inbox.specs.KeyOrder.{key_cmp}
use Rattle.inbox.specs.Ordered.{append_new}
use Rattle.inbox.specs.Sets.{set_of}
use Rattle.site.specs.Page.{page}
use Rattle.databases.specs.Held.{SaysPage, ShowsPage}
use Rattle.databases.specs.Print.{batch_line}
use Rattle.database_commands.proofs.MadeLemmas.{made_says, once_shown, page_made}
use Rattle.database_commands.proofs.page.scrub.Goals as goal

pub returns-clause-did : goal.returns-clause-did
returns-clause-did g c =
    page_made (state g.S.Store c.args.conn) (state g.S.Store c.own_contents-conn.result.conn) c.own_contents-conn.result.outcome c.page_line-outcome.result
    (λ es text. text ≡ batch_line (page (set_of (append_new key_cmp [] es)) c.args.from 100)) (ShowsPage c.args.from)
    c.own_contents-conn.ensures
    (λ es text is shows all holds. is ∙ ap (λ (l : List EventValue). batch_line (page (set_of l) c.args.from 100)) (once_shown _ es all shows holds))
    c.page_line-outcome.ensures

pub returns-clause-line : goal.returns-clause-line
returns-clause-line g c =
    made_says c.own_contents-conn.result.outcome c.page_line-outcome.result
    (λ es text. text ≡ batch_line (page (set_of (append_new key_cmp [] es)) c.args.from 100)) (SaysPage c.args.from)
    (λ es text is. (append_new key_cmp [] es, is)) c.page_line-outcome.ensures
