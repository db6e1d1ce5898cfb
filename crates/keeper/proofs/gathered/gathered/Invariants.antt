use Rattle.std.proofs.Common.{◌≡◌, ◌≤◌, ◌*◌, length}
use Rattle.site.specs.Arrival.{AreDistinct}
use Rattle.site.specs.Page.{page}
use Rattle.site_lock.specs.Pass.{leaves}
use Rattle.keeper.specs.Keep.{EndsPaged, max_page}
use Rattle.keeper.proofs.GatherLemmas.{HasAsked}
use Rattle.keeper.proofs.gathered.gathered.Given as goal

abbrev pub invariant-loop-page : goal.invariant-loop-page
invariant-loop-page g l =
    HasAsked l.from l.fn.pass l.pass l._page × (l.pass.table ≡ l.shared) × AreDistinct (leaves l.pass)
    × (l.events ≡ page (leaves l.pass) l.from (max_page * l._page)) × (length l.events ≡ max_page * l._page) × (1 ≤ l._page) × (l._page ≤ l.pages)
    × EndsPaged l.pass
