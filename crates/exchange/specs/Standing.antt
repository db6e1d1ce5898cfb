-- Running sites, and what they have as sets.
use Rattle.std.specs.Prelude.{◌≡◌, ◌≢◌, ◌≤◌, ◌⊎◌, ℕ, List, [], length, slice_get, take, Some}
use Rattle.std.specs.List.{AllZip}
use Rattle.inbox.specs.Sets.{set_of}
use Rattle.exchange.specs.Place.{Place, start}
use Rattle.exchange.specs.Schedule.{MayStopAt, after_part, world_after}
use Rattle.exchange.specs.declared.step.Step.{Step}
use Rattle.exchange.specs.declared.world.Hosted.{Hosted}

-- a running site has the sets of its place: what it took, and what outlasts a restart, of which the
-- mark is the size; nothing stands twice among its arrivals
pub record IsHostOf (host : Hosted) (place : Place) : Type 0 where
  pub taken : set_of host.site ≡ place.taken
  pub kept : set_of (take host.kept host.site) ≡ place.kept
  pub mark : host.kept ≡ length place.kept
  pub within : host.kept ≤ length host.site
  pub once : length (set_of host.site) ≡ length host.site

-- each running site of the exchange has the sets of its place
abbrev pub StandAtPlaces : List Hosted → List Place → Type 0
StandAtPlaces hosts w = AllZip IsHostOf hosts w

-- a run of the schedule from the places w that was stopped in a step: so many were done, and the
-- next one was stopped after its first events
abbrev pub StoppedIn : List Place → List Step → List Hosted → ℕ → ℕ → Type 0
StoppedIn w steps hosts done part =
    (step : Step) × (slice_get steps done ≡ Some step)
    × MayStopAt part step (world_after (take done steps) w)
    × StandAtPlaces hosts (after_part part step (world_after (take done steps) w))

-- a run of a schedule of n sites that was stopped: the list of sites couldn't be made, of which
-- there was to be one at least; or in a step
abbrev pub StoppedAt : ℕ → List Step → List Hosted → ℕ → ℕ → Type 0
StoppedAt n steps hosts done part =
    ((n ≢ 0) × (hosts ≡ []) × (done ≡ 0) × (part ≡ 0)) ⊎ StoppedIn (start n) steps hosts done part
