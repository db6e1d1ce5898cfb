-- What a peer brings to a run, over an inbox that held some events and to which more came.
use Rattle.std.specs.Prelude.{◌≡◌, List, [], ◌++◌}
use Rattle.std.specs.List.{AllByRecursion}
use Rattle.attributes.specs.Event.{EventValue}
use Rattle.coverage.specs.Digests.{Digests}
use Rattle.coverage.specs.Summary.{Sources}
use Rattle.inbox.specs.KeyOrder.{key_cmp}
use Rattle.inbox.specs.Ordered.{append_new}
use Rattle.inbox.specs.Sets.{set_of}
use Rattle.site.specs.Delta.{delta}
use Rattle.site.specs.declared.call.Call.{Call}
use Rattle.feeds.specs.Pull.{HoldsEach, PullsFrom}
use Rattle.feeds.specs.Report.{handled}
use Rattle.feeds.specs.declared.report.WorkerEnd.TheVariants.{Done}
use Rattle.feeds.specs.declared.report.Report.{Report}

-- a peer in a run that took these events: each once, in the order in which they came
abbrev pub peer_of : List EventValue → List EventValue
peer_of events = append_new key_cmp [] events

module _ (held more : List EventValue) where
  -- the peer was told a summary of what had come by some moment, and all that it lacked of the
  -- peer's events is there
  pub record IsPulled (peer : List EventValue) : Type 0 where
    pub before : List EventValue
    pub behind : List EventValue
    pub moment : more ≡ before ++ behind
    pub told : Sources
    pub digests : Digests (set_of (held ++ before)) told
    pub brought : HoldsEach (held ++ more) (delta (set_of peer) told)

  -- so it is of each peer
  abbrev pub ArePulled : List (List EventValue) → Type 0
  ArePulled peers = AllByRecursion IsPulled peers

  -- the report is that of a pull from the peer: all that it moved is there; where it is done, all
  -- that was lacking
  pub record IsPull (peer : List EventValue) (r : Report) : Type 0 where
    pub calls : List Call
    pub pull : PullsFrom peer calls (held ++ more) r
    pub moved : HoldsEach (held ++ more) (handled calls)
    pub done : r.ended ≡ Done → IsPulled peer
