-- Lanes that go on, each on its own.
use Rattle.std.proofs.Common.{◌≡◌, ◌⊎◌, ◌+◌, ◌<◌, ◌≤◌, inl, inr, ℕ, zero, suc, Bool, true, false, List, [], ◌∷◌, ◌++◌, length, map, slice_set, get_or, Some, None, Option, IsSome, IsTrue, All, refl, sym, ap, subst, ◌∙◌, arith}
use Rattle.std.proofs.lemmas.Bool.{cases_lt}
use Rattle.sqlite.specs.Effect.{Database}
use Rattle.sqlite.specs.State.{State, HasCleanDisk}
use Rattle.attributes.specs.Event.{EventValue}
use Rattle.outbox.specs.Call.{IsServiceReading}
use Rattle.outbox.specs.Row.{rows_of}
use Rattle.relay_fan.specs.Fan.{AreSent}
use Rattle.relay_fan.specs.steps.Lane.{MovesLane, Carries, Hands, AreBetween, Comes, Rests, Honestly, AllAtPlaces, IsWindow}
use Rattle.relay_fan.specs.steps.Slot.{IsOf, Lands, Starts}
use Rattle.relay.specs.declared.fault.RelayFault.{RelayFault}
use Rattle.relay_fan.specs.declared.fan.lane.Lane.{Lane}
use Rattle.relay_fan.specs.declared.fan.slot.Slot.{Slot}
use Rattle.relay_fan.specs.declared.fan.slot.Slot.TheVariants.{Waiting, Busy, Ended, Taken}
use Rattle.relay_fan.proofs.LaneLemmas.{each_length, of_in, moves_none, moves_then, carries_none, carries_then}
use Rattle.relay_fan.proofs.WindowLemmas.{between_window, in_window, of_window, no_window, window_end}

-- what a lane carried over a window, it carried over the rows of the service
carries_on : {R : Type 0} (accepted : R → List EventValue) (takes : R → List EventValue → R → Type 0) (has_failed : R → R → Type 0) (lets shuts heard : ℕ → ℕ → Type 0) (base : ℕ) (all : List EventValue) (start : ℕ) (rows : List EventValue) → IsWindow base all start rows → base ≤ start
    → (x y : Lane R) → (start ≤ x.relay.mark) ⊎ (start ≤ base) → Carries accepted takes has_failed lets shuts heard start rows x y → Carries accepted takes has_failed lets shuts heard base all x y
carries_on {R} accepted takes has_failed lets shuts heard base all start rows w low x y top c = record {
  moves = c.moves;
  within = elim c.within [ inl same ↦ inl same | inr fits ↦ window_end base all start x.relay.mark rows x.relay.mark y.relay.mark w low top (omega arith) c.moves.forward fits ];
  sent = λ number e above below it.
      let over : start < number = elim top [ inl near ↦ omega (arith, near, above) | inr near ↦ omega (arith, near, it.0) ] in
      elim c.within [ inl same ↦ absurd (omega (arith, same, above, below)) | inr fits ↦ c.sent number e above below (in_window base all start rows number e w low over (omega (arith, below, fits)) it) ];
  new_rows = of_in (accepted x.route) (accepted y.route) rows all c.new_rows (of_window base all start rows w);
  handed = λ goes.
      let was : (pages : List (List EventValue)) × (Hands takes has_failed lets shuts heard x y pages × AreBetween start rows x.relay.mark y.relay.mark pages) = c.handed goes in
      (was.0, (was.1.0, was.1.1 ∙ between_window base all start x.relay.mark rows x.relay.mark y.relay.mark w low top (omega arith) c.moves.forward c.within));
}

honest_later : (source : List ℕ) (base : ℕ) (db : Database) (b c : State) (P : List EventValue → Type 0) → IsServiceReading b c → Honestly source base db b P → Honestly source base db c P
honest_later source base db b c P same h clean commands is = h (omega (arith, clean, same.clean)) commands is

module _ {R : Type 0} (accepted : R → List EventValue) (takes : R → List EventValue → R → Type 0) (has_failed : R → R → Type 0) (lets shuts heard : ℕ → ℕ → Type 0) (source : List ℕ) (base : ℕ) where
  pub comes_none : (db : Database) (s : State) (lane : Lane R) → Comes accepted takes has_failed lets shuts heard source base db s lane lane
  comes_none db s lane = record { moves = moves_none accepted takes has_failed lets shuts heard lane; carries = λ clean commands is. carries_none accepted takes has_failed lets shuts heard base _ lane }

  pub comes_later : (db : Database) (b c : State) (old new : Lane R) → IsServiceReading b c → Comes accepted takes has_failed lets shuts heard source base db b old new → Comes accepted takes has_failed lets shuts heard source base db c old new
  comes_later db b c old new same h = record { moves = h.moves; carries = honest_later source base db b c (λ rows. Carries accepted takes has_failed lets shuts heard base rows old new) same h.carries }

  -- a window more
  pub comes_on : (db : Database) (b : State) (old mid new : Lane R) (start : ℕ) (rows : List EventValue) → Comes accepted takes has_failed lets shuts heard source base db b old mid → base ≤ start → (start ≤ mid.relay.mark) ⊎ (start ≤ base) → Honestly source base db b (λ all. IsWindow base all start rows)
      → Carries accepted takes has_failed lets shuts heard start rows mid new → Comes accepted takes has_failed lets shuts heard source base db b old new
  comes_on db b old mid new start rows h low top w k = record {
    moves = moves_then accepted takes has_failed lets shuts heard old mid new h.moves k.moves;
    carries = λ clean commands is. carries_then accepted takes has_failed lets shuts heard base _ old mid new (h.carries clean commands is) (carries_on accepted takes has_failed lets shuts heard base _ start rows (w clean commands is) low mid new top k);
  }

  -- it stopped without a row of the window
  pub comes_stopped : (db : Database) (b : State) (old mid new : Lane R) → Comes accepted takes has_failed lets shuts heard source base db b old mid → ((start : ℕ) (rows : List EventValue) → Carries accepted takes has_failed lets shuts heard start rows mid new) → Comes accepted takes has_failed lets shuts heard source base db b old new
  comes_stopped db b old mid new h k = record {
    moves = moves_then accepted takes has_failed lets shuts heard old mid new h.moves (k 0 []).moves;
    carries = λ clean commands is. carries_then accepted takes has_failed lets shuts heard base _ old mid new (h.carries clean commands is) (k base _);
  }

  -- a lane that stopped has ended
  pub rests_stopped : (db : Database) (b c : State) (old new : Lane R) → IsServiceReading b c → Comes accepted takes has_failed lets shuts heard source base db b old new → (new.fault ≡ None → ⊥) → Rests accepted takes has_failed lets shuts heard source base db c old new
  rests_stopped db b c old new same h stopped = record { comes = comes_later db b c old new same h; done = λ none. absurd (stopped none) }

  -- no row was left
  pub rests_done : (db : Database) (b c : State) (old new : Lane R) (start : ℕ) (rows : List EventValue) → IsServiceReading b c → Comes accepted takes has_failed lets shuts heard source base db b old new → base ≤ start → (start ≤ new.relay.mark) ⊎ (start ≤ base) → Honestly source base db c (λ all. IsWindow base all start rows) → length rows ≡ 0
      → Rests accepted takes has_failed lets shuts heard source base db c old new
  rests_done db b c old new start rows same h low top w none = record {
    comes = comes_later db b c old new same h;
    done = λ goes clean commands is number e it.
        let below : number ≤ start = no_window base _ start rows (w clean commands is) low (no_rows rows none) number e it in
        elim top [ inl near ↦ omega (arith, near, below) | inr near ↦ absurd (omega (arith, near, below, it.0)) ];
  }
    where
      no_rows : (l : List EventValue) → length l ≡ 0 → l ≡ []
      no_rows [] is = refl
      no_rows (x ∷ l) is = absurd (omega (arith, is))

module _ {R G : Type 0} (accepted : R → List EventValue) (takes : R → List EventValue → R → Type 0) (has_failed : R → R → Type 0) (lets shuts heard : G → ℕ → ℕ → Type 0) (gate : G) (source : List ℕ) (base : ℕ) where
  pub of_later : (db : Database) (b c : State) → IsServiceReading b c → (old : Lane R) (slot : Slot R G) → IsOf accepted takes has_failed lets shuts heard gate source base db b old slot → IsOf accepted takes has_failed lets shuts heard gate source base db c old slot
  of_later db b c same old (Waiting lane) h = comes_later accepted takes has_failed (lets gate) (shuts gate) (heard gate) source base db b c old lane same h
  of_later db b c same old (Busy handle) h = (
    comes_later accepted takes has_failed (lets gate) (shuts gate) (heard gate) source base db b c old handle.promise.lane.value same h.0,
    (h.1.0, (h.1.1.0, (h.1.1.1.0, honest_later source base db b c (λ rows. IsWindow base rows handle.promise.start handle.promise.rows.value) same h.1.1.1.1))),
  )
  of_later db b c same old (Ended lane) h = record {
    comes = comes_later accepted takes has_failed (lets gate) (shuts gate) (heard gate) source base db b c old lane same h.comes;
    done = λ none. honest_later source base db b c (λ rows. Rattle.relay_fan.specs.Fan.IsAtEnd base rows lane.relay.mark) same (h.done none);
  }
  of_later db b c same old Taken h = absurd h

  -- a worker was started
  pub of_starts : (db : Database) (s : State) (old lane : Lane R) (start : ℕ) (rows : List EventValue) (slot : Slot R G) → Comes accepted takes has_failed (lets gate) (shuts gate) (heard gate) source base db s old lane → base ≤ start → (start ≤ lane.relay.mark) ⊎ (start ≤ base)
      → Honestly source base db s (λ all. IsWindow base all start rows) → Starts accepted takes has_failed lets shuts heard gate start rows lane slot → IsOf accepted takes has_failed lets shuts heard gate source base db s old slot
  of_starts db s old lane start rows (Waiting back) h low top w k = comes_on accepted takes has_failed (lets gate) (shuts gate) (heard gate) source base db s old lane back start rows h low top w k
  of_starts db s old lane start rows (Busy handle) h low top w k = (
    subst (λ l. Comes accepted takes has_failed (lets gate) (shuts gate) (heard gate) source base db s old l) (sym k.0) h,
    (
      k.1,
      (
        subst (λ n. base ≤ n) (sym k.2) low,
        (
          subst (λ n. (n ≤ handle.promise.lane.value.relay.mark) ⊎ (n ≤ base)) (sym k.2) (subst (λ (l : Lane R). (start ≤ l.relay.mark) ⊎ (start ≤ base)) (sym k.0) top),
          λ clean commands is. subst (λ n. IsWindow base (rows_of source base commands) n handle.promise.rows.value) (sym k.2) (subst (λ r. IsWindow base (rows_of source base commands) start r) (sym k.3) (w clean commands is)),
        ),
      ),
    ),
  )
  of_starts db s old lane start rows (Ended back) h low top w k = absurd k
  of_starts db s old lane start rows Taken h low top w k = absurd k

  -- a worker has come back
  pub landed : (db : Database) (s : State) (old back : Lane R) (slot : Slot R G) → IsOf accepted takes has_failed lets shuts heard gate source base db s old slot → Lands accepted takes has_failed lets shuts heard slot back
      → Comes accepted takes has_failed (lets gate) (shuts gate) (heard gate) source base db s old back
  landed db s old back (Waiting lane) h k = subst (λ l. Comes accepted takes has_failed (lets gate) (shuts gate) (heard gate) source base db s old l) (sym k) h
  landed db s old back (Busy handle) h k =
      comes_on accepted takes has_failed (lets gate) (shuts gate) (heard gate) source base db s old handle.promise.lane.value back handle.promise.start handle.promise.rows.value h.0 h.1.1.0 h.1.1.1.0 h.1.1.1.1
      (subst (λ x. Carries accepted takes has_failed (lets x) (shuts x) (heard x) handle.promise.start handle.promise.rows.value handle.promise.lane.value back) h.1.0 k)
  landed db s old back (Ended lane) h k = absurd k
  landed db s old back Taken h k = absurd k

  -- each lane rests, once all have ended
  pub each_rests : (db : Database) (b : State) (olds news : List (Lane R)) → AllAtPlaces (IsOf accepted takes has_failed lets shuts heard gate source base db b) olds (map Ended news) → AllAtPlaces (Rests accepted takes has_failed (lets gate) (shuts gate) (heard gate) source base db b) olds news
  each_rests db b [] [] h = tt
  each_rests db b [] (y ∷ ys) h = absurd h
  each_rests db b (x ∷ xs) [] h = absurd h
  each_rests db b (x ∷ xs) (y ∷ ys) h = (h.0, each_rests db b xs ys h.1)

  -- each lane waits, before any has begun
  pub each_waits : (db : Database) (s : State) (lanes : List (Lane R)) → AllAtPlaces (IsOf accepted takes has_failed lets shuts heard gate source base db s) lanes (map Waiting lanes)
  each_waits db s [] = tt
  each_waits db s (x ∷ xs) = (comes_none accepted takes has_failed (lets gate) (shuts gate) (heard gate) source base db s x, each_waits db s xs)

  -- from the lanes as they waited to the lanes as they ended
  pub fan_rests : (db : Database) (s t : State) (olds news : List (Lane R)) (first last : List (Slot R G)) → first ≡ map Waiting olds → map Ended news ≡ last
      → (AllAtPlaces (IsOf accepted takes has_failed lets shuts heard gate source base db s) olds first → AllAtPlaces (IsOf accepted takes has_failed lets shuts heard gate source base db t) olds last) → AllAtPlaces (Rests accepted takes has_failed (lets gate) (shuts gate) (heard gate) source base db t) olds news
  fan_rests db s t olds news first last p q goes = each_rests db t olds news (subst (λ l. AllAtPlaces (IsOf accepted takes has_failed lets shuts heard gate source base db t) olds l) (sym q) (goes (subst (λ l. AllAtPlaces (IsOf accepted takes has_failed lets shuts heard gate source base db s) olds l) (sym p) (each_waits db s olds))))

  -- no lane is lost
  pub fan_many : (db : Database) (s t : State) (olds : List (Lane R)) (first last : List (Slot R G)) → first ≡ map Waiting olds
      → (AllAtPlaces (IsOf accepted takes has_failed lets shuts heard gate source base db s) olds first → AllAtPlaces (IsOf accepted takes has_failed lets shuts heard gate source base db t) olds last) → length last ≡ length olds
  fan_many db s t olds first last p goes = each_length (IsOf accepted takes has_failed lets shuts heard gate source base db t) olds last (goes (subst (λ l. AllAtPlaces (IsOf accepted takes has_failed lets shuts heard gate source base db s) olds l) (sym p) (each_waits db s olds)))

-- the same of another service that has this source and base
pub turned : {R G : Type 0} (accepted : R → List EventValue) (takes : R → List EventValue → R → Type 0) (has_failed : R → R → Type 0) (lets shuts heard : G → ℕ → ℕ → Type 0) (gate : G) (source source' : List ℕ) (base base' : ℕ) (db : Database) (b c : State) (olds : List (Lane R)) (xs ys : List (Slot R G)) → source' ≡ source → base' ≡ base
    → (AllAtPlaces (IsOf accepted takes has_failed lets shuts heard gate source' base' db b) olds xs → AllAtPlaces (IsOf accepted takes has_failed lets shuts heard gate source' base' db c) olds ys)
    → AllAtPlaces (IsOf accepted takes has_failed lets shuts heard gate source base db b) olds xs → AllAtPlaces (IsOf accepted takes has_failed lets shuts heard gate source base db c) olds ys
turned accepted takes has_failed lets shuts heard gate source source' base base' db b c olds xs ys p q goes h =
    subst (λ s. AllAtPlaces (IsOf accepted takes has_failed lets shuts heard gate s base db c) olds ys) p (subst (λ n. AllAtPlaces (IsOf accepted takes has_failed lets shuts heard gate source' n db c) olds ys) q
    (goes (subst (λ n. AllAtPlaces (IsOf accepted takes has_failed lets shuts heard gate source' n db b) olds xs) (sym q) (subst (λ s. AllAtPlaces (IsOf accepted takes has_failed lets shuts heard gate s base db b) olds xs) (sym p) h))))

-- one of the slots is another, and what holds of each before holds after
pub each_turn : {A B : Type 0} (P Q : A → B → Type 0) → ((o : A) (x : B) → P o x → Q o x) → (olds : List A) (xs : List B) (i : ℕ) (d x y z : B) → i < length xs → x ≡ get_or xs i d → ((o : A) → P o x → Q o y) → AllAtPlaces P olds xs → AllAtPlaces Q olds (slice_set (slice_set xs i z) i y)
each_turn P Q later olds [] i d x y z low at k h = absurd (omega (arith, low))
each_turn P Q later [] (b ∷ xs) i d x y z low at k h = absurd h
each_turn {A} {B} P Q later (a ∷ olds) (b ∷ xs) zero d x y z low at k h = (k a (subst (λ (v : B). P a v) (sym at) h.0), each_all olds xs h.1)
  where
    each_all : (ls : List A) (bs : List B) → AllAtPlaces P ls bs → AllAtPlaces Q ls bs
    each_all [] [] h = tt
    each_all [] (b ∷ bs) h = absurd h
    each_all (a ∷ ls) [] h = absurd h
    each_all (a ∷ ls) (b ∷ bs) h = (later a b h.0, each_all ls bs h.1)
each_turn P Q later (a ∷ olds) (b ∷ xs) (suc i) d x y z low at k h = (later a b h.0, each_turn P Q later olds xs i d x y z (omega (arith, low)) at k h.1)

-- what stands at a place is the same whatever stands for a place past the end
get_or_same : {A : Type 0} (xs : List A) (i : ℕ) (d x : A) → i < length xs → x ≡ get_or xs i x → x ≡ get_or xs i d
get_or_same [] i d x low is = absurd (omega (arith, low))
get_or_same (y ∷ xs) zero d x low is = is
get_or_same (y ∷ xs) (suc i) d x low is = get_or_same xs i d x (omega (arith, low)) is

-- one place more of which it holds
pub below_more : {A : Type 0} (P : A → Type 0) (xs : List A) (i : ℕ) (x : A) → i < length xs → x ≡ get_or xs i x → P x → ((k : ℕ) (d : A) → k < i → P (get_or xs k d)) → (k : ℕ) (d : A) → k < i + 1 → P (get_or xs k d)
below_more {A} P xs i x low at holds h k d near = elim (cases_lt k i) [
  | inl before ↦ h k d before
  | inr past ↦ let same : i ≡ k = omega (arith, near, past) in subst (λ (y : A). P y) (get_or_same xs i d x low at ∙ ap (λ n. get_or xs n d) same) holds
]

pub some_fault : (o : Option RelayFault) → IsSome o → o ≡ None → ⊥
some_fault (Some f) h is = absurd (cc)
some_fault None h is = let k : ◌≡◌ {A = Bool} false true = h in absurd (cc)

pub that_fault : (o : Option RelayFault) (f : RelayFault) → o ≡ Some f → o ≡ None → ⊥
that_fault (Some g) f h is = absurd (cc)
that_fault None f h is = absurd (cc)
