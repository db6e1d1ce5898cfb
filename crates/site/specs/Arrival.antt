-- What comes to a site.
pub use Rattle.block_digests.specs.Number.{HaveEachNumber}
use Rattle.std.specs.Prelude.{◌≡◌, ◌+◌, ℕ, List, [], false, length, take, Result, IfErr, IfOk, OnOk, Some, slice_get}
use Rattle.attributes.specs.Event.{EventValue}
use Rattle.inbox.specs.KeyOrder.{key_cmp}
use Rattle.inbox.specs.Ordered.{append_new, has}
use Rattle.inbox.specs.Sets.{set_of, union}
use Rattle.inbox.specs.declared.inbox.Counts.{Counts}
use Rattle.inbox.specs.declared.inbox.Short.{Short}

-- the event at a place of the list L, if there is one, is not among a site's arrivals A
abbrev pub LacksArrivalAt : List EventValue → List EventValue → ℕ → Type 0
LacksArrivalAt A L i = (e : EventValue) → slice_get L i ≡ Some e → has key_cmp A e ≡ false

-- each of the events is there once: a site that takes them, from nothing, passes none over
abbrev pub AreDistinct : List EventValue → Type 0
AreDistinct A = append_new key_cmp [] A ≡ A

-- the events L were brought to a site with the arrivals `old`: behind these stand those that
-- weren't there, and both kinds are counted; after a refusal it has so many of them alone, from the
-- first on
pub record Brings (old new L : List EventValue) (result : Result Counts Short) : Type 0 where
  pub arrivals : OnOk result (new ≡ append_new key_cmp old L)
  pub set : OnOk result (set_of new ≡ union (set_of old) L)
  pub fresh : IfOk result (λ n. length old + n.fresh ≡ length new)
  pub repeated : IfOk result (λ n. n.fresh + n.repeated ≡ length L)
  pub short : IfErr result (λ s. new ≡ append_new key_cmp old (take s.taken L))
  pub short_set : IfErr result (λ s. set_of new ≡ union (set_of old) (take s.taken L))
  pub short_fresh : IfErr result (λ s. length old + s.fresh ≡ length new)
