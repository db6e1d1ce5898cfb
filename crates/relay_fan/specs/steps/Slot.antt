-- Where lanes are while they go on, each on its own.
use Rattle.std.specs.Prelude.{◌≡◌, ◌⊎◌, ◌≤◌, ℕ, List}
use Rattle.attributes.specs.Event.{EventValue}
use Rattle.sqlite.specs.Effect.{Database}
use Rattle.sqlite.specs.State.{State}
use Rattle.relay_fan.specs.steps.Lane.{Carries, Comes, Honestly, IsWindow, Rests}
use Rattle.relay_fan.specs.declared.fan.lane.Lane.{Lane}
use Rattle.relay_fan.specs.declared.fan.slot.Slot.{Slot}
use Rattle.relay_fan.specs.declared.fan.slot.Slot.TheVariants.{Waiting, Busy, Ended, Taken}

-- a fan-out's worker was given this lane and window, or the lane is back, carried over it
abbrev pub Starts : {R : Type 0} → {G : Type 0} → (R → List EventValue)
    → (R → List EventValue → R → Type 0) → (R → R → Type 0) → (G → ℕ → ℕ → Type 0)
    → (G → ℕ → ℕ → Type 0) → (G → ℕ → ℕ → Type 0) → G → ℕ → List EventValue → Lane R
    → Slot R G → Type 0
Starts accepted takes has_failed lets shuts heard gate start rows lane (Waiting back) =
    Carries accepted takes has_failed (lets gate) (shuts gate) (heard gate) start rows lane back
Starts accepted takes has_failed lets shuts heard gate start rows lane (Busy handle) =
    (handle.promise.lane.value ≡ lane) × (handle.promise.gate.value ≡ gate)
    × (handle.promise.start ≡ start) × (handle.promise.rows.value ≡ rows)
Starts accepted takes has_failed lets shuts heard gate start rows lane (Ended back) = ⊥
Starts accepted takes has_failed lets shuts heard gate start rows lane Taken = ⊥

-- the route's lane was here, or its worker carried it over the window that it was given
abbrev pub Lands : {R : Type 0} → {G : Type 0} → (R → List EventValue)
    → (R → List EventValue → R → Type 0) → (R → R → Type 0) → (G → ℕ → ℕ → Type 0)
    → (G → ℕ → ℕ → Type 0) → (G → ℕ → ℕ → Type 0) → Slot R G → Lane R → Type 0
Lands accepted takes has_failed lets shuts heard (Waiting lane) back = back ≡ lane
Lands accepted takes has_failed lets shuts heard (Busy handle) back =
    Carries accepted takes has_failed (lets handle.promise.gate.value)
    (shuts handle.promise.gate.value) (heard handle.promise.gate.value) handle.promise.start
    handle.promise.rows.value handle.promise.lane.value back
Lands accepted takes has_failed lets shuts heard (Ended lane) back = ⊥
Lands accepted takes has_failed lets shuts heard Taken back = ⊥

-- the lane of a route, here or as its worker was given it, comes of that lane: a worker was given a
-- window from its mark on
abbrev pub IsOf : {R : Type 0} → {G : Type 0} → (R → List EventValue)
    → (R → List EventValue → R → Type 0) → (R → R → Type 0) → (G → ℕ → ℕ → Type 0)
    → (G → ℕ → ℕ → Type 0) → (G → ℕ → ℕ → Type 0) → G → List ℕ → ℕ → Database → State → Lane R
    → Slot R G → Type 0
IsOf accepted takes has_failed lets shuts heard gate source base db s old (Waiting lane) =
    Comes accepted takes has_failed (lets gate) (shuts gate) (heard gate) source base db s old lane
IsOf accepted takes has_failed lets shuts heard gate source base db s old (Busy handle) =
    Comes accepted takes has_failed (lets gate) (shuts gate) (heard gate) source base db s old
    handle.promise.lane.value
    × ((handle.promise.gate.value ≡ gate) × ((base ≤ handle.promise.start)
    × (((handle.promise.start ≤ handle.promise.lane.value.relay.mark)
    ⊎ (handle.promise.start ≤ base))
    × Honestly source base db s (λ rows.
    IsWindow base rows handle.promise.start handle.promise.rows.value))))
IsOf accepted takes has_failed lets shuts heard gate source base db s old (Ended lane) =
    Rests accepted takes has_failed (lets gate) (shuts gate) (heard gate) source base db s old lane
IsOf accepted takes has_failed lets shuts heard gate source base db s old Taken = ⊥

-- the lane of a fan-out's slot ended
abbrev pub IsEnded : {R : Type 0} → {G : Type 0} → Slot R G → Type 0
IsEnded {R} slot = (lane : Lane R) × (slot ≡ Ended lane)
