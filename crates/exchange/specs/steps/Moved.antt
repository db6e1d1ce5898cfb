-- Events that go from a site to another, a part at a time.
use Rattle.std.specs.Prelude.{◌≡◌, ◌+◌, ◌<◌, ◌≤◌, ℕ, List, [], drop, length, take, Result, IfErr, IfOk}
use Rattle.attributes.specs.Event.{EventValue}
use Rattle.coverage.specs.Summary.{Sources}
use Rattle.inbox.specs.KeyOrder.{key_cmp}
use Rattle.inbox.specs.Ordered.{append_new}
use Rattle.inbox.specs.Sets.{set_of, union}
use Rattle.site.specs.Delta.{lacking_of}
use Rattle.exchange.specs.declared.transfer.Moved.{Moved}

-- a part of a gossip: of the events `left` of E that the peer lacks from a place on, so many came
-- to a site with the arrivals `old`, from the first on, and the others stand from the next place
-- on; refused, fewer than all came
pub record MovesOn (E : List EventValue) (peer : Sources) (place : ℕ) (left old new : List EventValue)
    (result : Result Moved ℕ) : Type 0 where
  pub arrivals : IfOk result (λ m. new ≡ append_new key_cmp old (take m.count left))
  pub set : IfOk result (λ m. set_of new ≡ union (set_of old) (take m.count left))
  pub all : IfOk result (λ m. m.count ≡ 0 → left ≡ [])
  pub rest : IfOk result (λ m. lacking_of E peer (drop m.next E) ≡ drop m.count left)
  pub within : IfOk result (λ m. m.next ≤ length E)
  pub behind : IfOk result (λ m. place + m.count ≤ m.next)
  pub counted : IfOk result (λ m. m.count ≤ length left)
  pub short : IfErr result (λ part. new ≡ append_new key_cmp old (take part left))
  pub short_set : IfErr result (λ part. set_of new ≡ union (set_of old) (take part left))
  pub short_taken : IfErr result (λ part. part < length left)
