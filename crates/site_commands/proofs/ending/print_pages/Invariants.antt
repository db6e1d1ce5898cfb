use Rattle.std.proofs.Common.{◌≡◌, ◌-◌}
use Rattle.site_commands.proofs.EndingLemmas.{Paging}
use Rattle.site_commands.proofs.ending.print_pages.Given as goal

abbrev pub invariant-loop-page : goal.invariant-loop-page
invariant-loop-page g l =
    Paging (g.O.Write.contents l.initial.out) (g.O.Write.contents l.out) l.initial.left l.left (l.most - l.page)
    × (g.E.Write.contents l.err ≡ g.E.Write.contents l.initial.err)
