use Rattle.std.proofs.Common.{◌∙◌, ap, sym}
use Rattle.inbox.specs.Sets.{set_of}
use Rattle.databases.specs.steps.Left.{events_left}
use Rattle.databases.proofs.PageLemmas.{pages_dropped, pages_left}
use Rattle.databases.proofs.pages.EventPages.most.Goals as goal

pub returns-in-Arrived : goal.returns-in-Arrived
returns-in-Arrived c =
    pages_dropped c.in-Arrived.events c.self.inside.place c.len.result c.args.self.now
    (sym c.self.view_is ∙ ap (λ e. events_left e c.self.inside.place) c.in-Arrived.is) c.len.ensures

pub returns-in-Kept : goal.returns-in-Kept
returns-in-Kept c =
    pages_left (set_of c.in-Kept.site) c.in-Kept.compared c.self.inside.place c.len-in-Kept.result c.args.self.now
    (sym c.self.view_is ∙ ap (λ e. events_left e c.self.inside.place) c.in-Kept.is) c.len-in-Kept.ensures
