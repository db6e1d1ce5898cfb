use Rattle.std.proofs.Common.{◌∙◌, ◌+◌, ap, drop, min}
use Rattle.databases.proofs.PageLemmas.{behind_page}
use Rattle.databases.proofs.pages.arrivals_behind.Goals as goal

pub returns-clause-rest : goal.returns-clause-rest
returns-clause-rest c =
    ap (λ k. drop (c.args.place + k) c.args.arrived.now) (c.min.ensures ∙ ap (min 100) c.saturating_sub-left.ensures)
    ∙ behind_page c.args.place 100 c.len.result c.args.arrived.now c.len.ensures
