use Rattle.std.proofs.Common.{subst, take}
use Rattle.std.specs.Prelude.{Contains}
use Rattle.inbox.specs.Sets.{set_of}
use Rattle.site.proofs.SkipLemmas.{still_behind}
use Rattle.site.proofs.laws.pages_skip_none.Goals as goal

pub returns : goal.returns
returns c A L n e a b there not now =
    still_behind c.sets_are_members.ensures A (set_of L) n e there not
    (subst (λ E. Contains (take n E) e) (c.arrivals_unite.ensures A L a b) now)
