-- What holds of sites, whatever they took.
use Rattle.std.specs.Prelude.{◌≡◌, ℕ, List, ◌||◌, Contains, Some, slice_get, take}
use Rattle.attributes.specs.Event.{EventValue}
use Rattle.coverage.specs.Digests.{Digests}
use Rattle.coverage.specs.Summary.{Sources}
use Rattle.coverage.specs.SummaryText.{summary_text}
use Rattle.inbox.specs.KeyOrder.{key_cmp}
use Rattle.inbox.specs.Ordered.{append_new, has}
use Rattle.inbox.specs.Sets.{AreEvents, set_of, union}
use Rattle.views.specs.Question.{IsAnswer}
use Rattle.views.specs.declared.query.Query.{Query}
use Rattle.site.specs.Delta.{delta}
use Rattle.site.specs.Page.{page}

-- the sets of two sites are alike: a question has one text over both, both have one summary that
-- digests them and one text of it, and any delta, page of a delta and page is the same of both
pub record AreAlike (E F : List EventValue) : Type 0 where
  pub questions : (query : Query) (text other : List ℕ) → IsAnswer query E text
      → IsAnswer query F other → text ≡ other
  pub summaries : (s t : Sources) → Digests E s → Digests F t → s ≡ t
  pub texts : (s t : Sources) → Digests E s → Digests F t → summary_text s ≡ summary_text t
  pub deltas : (peer : Sources) → delta E peer ≡ delta F peer
  pub delta_pages : (peer : Sources) (from limit : ℕ)
      → page (delta E peer) from limit ≡ page (delta F peer) from limit
  pub pages : (from limit : ℕ) → page E from limit ≡ page F from limit

-- sites whose arrivals are the same events, in whatever order, are answered about alike
abbrev pub SitesAnswerAlike : Type 0
SitesAnswerAlike =
    (A B : List EventValue) → AreEvents A → AreEvents B
    → ((e : EventValue) → has key_cmp A e ≡ has key_cmp B e) → AreAlike (set_of A) (set_of B)

-- what a site with the arrivals A has after it takes the events L
pub record IsUnited (A L : List EventValue) : Type 0 where
  pub members : (e : EventValue)
      → has key_cmp (append_new key_cmp A L) e ≡ (has key_cmp A e || has key_cmp L e)
  pub set : set_of (append_new key_cmp A L) ≡ union (set_of A) (set_of L)

-- whatever a site takes, it has what it had and that
abbrev pub TakingUnites : Type 0
TakingUnites = (A L : List EventValue) → AreEvents A → AreEvents L → IsUnited A L

-- an event of a site's set that isn't among the first n isn't among them after more was taken
abbrev pub PagesSkipNone : Type 0
PagesSkipNone =
    (A L : List EventValue) (n : ℕ) (e : EventValue) → AreEvents A → AreEvents L
    → Contains (set_of A) e → ¬ Contains (take n (set_of A)) e
    → ¬ Contains (take n (set_of (append_new key_cmp A L))) e

-- the event that came to a site as the n-th is the n-th for ever, whatever is taken
abbrev pub ArrivalsStay : Type 0
ArrivalsStay = (A L : List EventValue) (n : ℕ) (e : EventValue) → slice_get A n ≡ Some e
    → slice_get (append_new key_cmp A L) n ≡ Some e
