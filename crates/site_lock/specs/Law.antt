-- What holds of passes, whatever was done.
use denote.Param.Send.{IsSend, IsSync}
use Rattle.std.specs.Prelude.{◌≡◌, List, []}
use Rattle.attributes.specs.Event.{EventValue}
use Rattle.site.specs.Machine.{Follows}
use Rattle.site.specs.declared.call.Call.{Call}
use Rattle.site_lock.specs.contracts.pass.Pass as pass
use Rattle.site_lock.specs.contracts.shared.SharedSite as shared
use Rattle.site_lock.specs.Pass.{Closes, Made, ShownPass, leaves}

-- the shared site's first pass, never split, has seen all history where it closes the site: no
-- entry of others comes behind what it has seen, and it comes out with the arrivals after that
abbrev pub UnsplitPassesSeeAll : Type 0
UnsplitPassesSeeAll = (p : ShownPass) (A : List EventValue) → p.number ≡ [] → p.splits ≡ 0
    → (end : Closes p A) → (end.others ≡ []) × (A ≡ leaves p)

-- a call of a pass of the shared site is one of the site machine, behind what others added
abbrev pub CallsFollow : Type 0
CallsFollow = (p q : ShownPass) (c : Call) → Made p q c → Follows (leaves p) c (leaves q)

-- a pass of the shared site may go to another thread
abbrev pub PassesAreSend : Type 0
PassesAreSend = IsSend pass.the_row

-- threads may use one shared site by a `&`
abbrev pub SharedSitesAreSync : Type 0
SharedSitesAreSync = IsSync shared.the_row
