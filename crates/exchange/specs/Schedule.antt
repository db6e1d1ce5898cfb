-- A schedule of steps among sites.
use Rattle.std.specs.Prelude.{◌≡◌, ◌≢◌, ◌<◌, ◌⊎◌, ℕ, List, [], ◌∷◌, length, slice_set, take}
use Rattle.attributes.specs.Event.{EventValue}
use Rattle.exchange.specs.Lacking.{lacking}
use Rattle.inbox.specs.Sets.{union}
use Rattle.site.specs.Arrival.{LacksArrivalAt}
use Rattle.exchange.specs.Place.{Place, gains, place_at}
use Rattle.exchange.specs.declared.step.Step.{Step}
use Rattle.exchange.specs.declared.step.Step.TheVariants.{Deliver, Flush, Gossip, Restart, Scrub}

-- the world of exchanging sites after a step of the schedule
abbrev pub places_after : Step → List Place → List Place
places_after (Deliver i L) w = gains w i L
places_after (Gossip i j) w = gains w j (lacking (place_at w i).taken (place_at w j).taken)
places_after (Scrub i j) w = gains w j (place_at w i).taken
places_after (Flush i) w = slice_set w i (record (place_at w i) { kept = (place_at w i).taken })
places_after (Restart i) w = slice_set w i (record (place_at w i) { taken = (place_at w i).kept })

-- the world after a step of the schedule of which the site takes the first n events alone
abbrev pub after_part : ℕ → Step → List Place → List Place
after_part n (Deliver i L) w = gains w i (take n L)
after_part n (Gossip i j) w =
    gains w j (take n (lacking (place_at w i).taken (place_at w j).taken))
after_part n (Scrub i j) w = gains w j (take n (place_at w i).taken)
after_part n (Flush i) w = w
after_part n (Restart i) w = w

-- a step of the schedule was cut short: so many of the events were taken when memory was wanted:
-- fewer than all, or none, where it was wanted before the first
abbrev pub IsCutShort : ℕ → List EventValue → Type 0
IsCutShort n L = (n ≡ 0) ⊎ (n < length L)

-- memory was wanted for the step's next event, which those before it and the site's don't have
abbrev pub IsShortOfNext : List EventValue → ℕ → List EventValue → Type 0
IsShortOfNext E n L = (n < length L) × LacksArrivalAt (union E (take n L)) L n

-- want of memory may stop the step after its site took the first n events that it gives: a delivery
-- for an event that the site hasn't; a gossip for what the giver has, and a scrub for an event of it
-- that the taker hasn't, if they are two sites; a restart for what was flushed, before the site
-- changes; and a flush for nothing
abbrev pub MayStopAt : ℕ → Step → List Place → Type 0
MayStopAt n (Deliver i L) w = IsShortOfNext (place_at w i).taken n L
MayStopAt n (Gossip i j) w =
    (i ≢ j) × ((place_at w i).taken ≢ [])
    × IsCutShort n (lacking (place_at w i).taken (place_at w j).taken)
MayStopAt n (Scrub i j) w = (i ≢ j) × IsShortOfNext (place_at w j).taken n (place_at w i).taken
MayStopAt n (Flush i) w = ⊥
MayStopAt n (Restart i) w = (n ≡ 0) × ((place_at w i).kept ≢ [])

-- the world of exchanging sites after all steps of the schedule
abbrev pub world_after : List Step → List Place → List Place
world_after [] w = w
world_after (step ∷ steps) w = world_after steps (places_after step w)

-- every site of a step of the schedule is one of n
abbrev pub FitsIn : ℕ → Step → Type 0
FitsIn n (Deliver i L) = i < n
FitsIn n (Gossip i j) = (i < n) × (j < n)
FitsIn n (Scrub i j) = (i < n) × (j < n)
FitsIn n (Flush i) = i < n
FitsIn n (Restart i) = i < n
