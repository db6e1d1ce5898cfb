-- What a pull brings from one desk to another.
use Rattle.std.specs.Prelude.{◌≡◌, ◌⊎◌, ◌+◌, ℕ, List, [], ◌∷◌, ◌++◌, length, true}
use Rattle.std.specs.List.{AllByRecursion}
use Rattle.attributes.specs.Event.{EventValue}
use Rattle.coverage.specs.Summary.{Sources}
use Rattle.inbox.specs.KeyOrder.{key_cmp}
use Rattle.inbox.specs.Ordered.{has}
use Rattle.inbox.specs.Sets.{set_of}
use Rattle.site.specs.Delta.{delta}
use Rattle.site.specs.Machine.{Runs, call}
use Rattle.site.specs.Page.{max_page}
use Rattle.site.specs.declared.call.Call.{Call}
use Rattle.site.specs.declared.call.Command.TheVariants as command
use Rattle.site.specs.declared.call.Reply.{Reply}
use Rattle.site.specs.declared.call.Reply.TheVariants.{Paged, Summed}
use Rattle.feeds.specs.Report.{CountsHandled, EndsEarly, Handles, HasCause, IsRefusedReply, handled}
use Rattle.feeds.specs.declared.report.WorkerEnd.TheVariants.{Done, GateShut, OutOfMemory}
use Rattle.feeds.specs.declared.report.Report.{Report}

-- the events of a page that a pull got; any other reply has none
abbrev pub events_in : Reply → List EventValue
events_in (Paged events) = events
events_in _ = []

-- the events of the replies to a pull, in order
abbrev pub replied : List Call → List EventValue
replied [] = []
replied (c ∷ cs) = events_in c.reply ++ replied cs

-- each call of a pull asks for at most 100 events of what a peer lacks by its summary, from the
-- place on to which the replies before it came
abbrev pub ArePages : Sources → ℕ → List Call → Type 0
ArePages peer place [] = Unit {0}
ArePages peer place (c ∷ cs) = (c.command ≡ command.DeltaPage peer place max_page)
    × ArePages peer (place + length (events_in c.reply)) cs

-- the last call of a pull got an empty page
abbrev pub EndsEmpty : List Call → Type 0
EndsEmpty [] = ⊥
EndsEmpty (c ∷ []) = c.reply ≡ Paged []
EndsEmpty (c ∷ d ∷ ds) = EndsEmpty (d ∷ ds)

-- each of the events that a pull brings is among the desk's arrivals
abbrev pub HoldsEach : List EventValue → List EventValue → Type 0
HoldsEach A events = AllByRecursion (λ e. has key_cmp A e ≡ true) events

-- a pull by this summary: m asked the one desk for pages, and n handed their events to the other,
-- all up to an empty page, where it was done
pub record Pulled (peer : Sources) (m n : List Call) (r : Report) : Type 0 where
  pub pages : ArePages peer 0 m
  pub handles : Handles n (replied m)
  pub counts : CountsHandled n r
  pub refused : r.refused ≡ 0
  pub ended : (r.ended ≡ Done) ⊎ EndsEarly r.ended
  pub cause : HasCause m r.ended × HasCause n r.ended
  pub done : r.ended ≡ Done → (handled n ≡ replied m) × EndsEmpty m

-- a pull that got no summary: it did nothing else. The gate was shut before it asked for one, or
-- this was refused
pub record IsPullUnbegun (m n : List Call) (r : Report) : Type 0 where
  pub no_pages : m ≡ []
  pub asked : ((r.ended ≡ GateShut) × (n ≡ [])) ⊎ ((r.ended ≡ OutOfMemory)
      × ((reply : Reply) × IsRefusedReply reply × (n ≡ call command.Summary reply ∷ [])))
  pub early : EndsEarly r.ended
  pub counts : r ≡ record { read = 0; fresh = 0; repeated = 0; refused = 0; ended = r.ended }

-- a pull, by its calls of the one desk and those of the other, of which the first asks for the
-- summary
abbrev pub Pulls : List Call → List Call → Report → Type 0
Pulls m n r = IsPullUnbegun m n r ⊎ ((peer : Sources) × (takes : List Call)
    × (n ≡ call command.Summary (Summed peer) ∷ takes) × Pulled peer m takes r)

-- by a pull's calls a desk that now has the arrivals B got all that the summary which it told
-- lacked of the events A
pub record BringsLacking (A : List EventValue) (n : List Call) (B : List EventValue) : Type 0 where
  pub peer : Sources
  pub takes : List Call
  pub told : n ≡ call command.Summary (Summed peer) ∷ takes
  pub handled_all : handled takes ≡ delta (set_of A) peer
  pub holds : HoldsEach B (delta (set_of A) peer)

-- a pull from a site of one's own with the arrivals A, by its calls m of this site and n of a desk
-- that then has the arrivals B: the site stays as it was, and all that was lacking was brought,
-- where it was done
abbrev pub PullsBy : List EventValue → List Call → List Call → List EventValue → Report → Type 0
PullsBy A m n B r = Runs A m A × Pulls m n r × (r.ended ≡ Done → BringsLacking A n B)

-- so it is of a pull by some calls of the site
abbrev pub PullsFrom : List EventValue → List Call → List EventValue → Report → Type 0
PullsFrom A n B r = (m : List Call) × Runs A m A × Pulls m n r × (r.ended ≡ Done → BringsLacking A n B)
