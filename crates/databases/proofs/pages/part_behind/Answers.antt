use Rattle.std.proofs.Common.{◌∙◌, ◌+◌, ap, drop, sym}
use Rattle.inbox.specs.Sets.{set_of}
use Rattle.databases.specs.Pages.{max_page}
use Rattle.databases.specs.steps.Left.{left_of}
use Rattle.databases.proofs.PageLemmas.{behind_page}
use Rattle.databases.proofs.pages.part_behind.Goals as goal

pub returns-in_ok-events-in-None-clause-rest : goal.returns-in_ok-events-in-None-clause-rest
returns-in_ok-events-in-None-clause-rest c =
    let set = set_of c.args.site.now in
    ap (λ o. left_of set o (c.args.place + c.min.result)) c.in-None.is
    ∙ (ap (λ k. drop (c.args.place + k) set) c.min.ensures ∙ behind_page c.args.place 100 c.len.result set c.len.ensures)
    ∙ sym (ap (λ o. drop max_page (left_of set o c.args.place)) c.in-None.is)
