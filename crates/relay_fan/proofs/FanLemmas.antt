-- Lists of relays, routes and ends, and the lanes that they make.
use Rattle.std.proofs.Common.{◌≡◌, ◌⊎◌, ◌+◌, ◌<◌, ◌≤◌, inl, inr, ℕ, zero, suc, List, [], ◌∷◌, ◌++◌, length, map, take, get_or, slice_get, Some, None, Option, All, append_assoc, append-nil, refl, sym, ap, subst, ◌∙◌, arith}
use Rattle.std.specs.Prelude.{⊤, MatchOption}
use Rattle.std.specs.List.{AllByRecursion}
use Rattle.std.proofs.lemmas.List.{take_more, take_all, map-append, length-append}
use Rattle.std.proofs.lemmas.List.Elements.{recursion_from_All, All-from_recursion, All-append}
use Rattle.attributes.specs.Event.{EventValue}
use Rattle.site.specs.Gate.{LetsThrough}
use Rattle.sqlite.specs.Effect.{Database}
use Rattle.sqlite.specs.State.{State, HasCleanDisk}
use Rattle.outbox.specs.Order.{Accepted}
use Rattle.outbox.specs.Row.{rows_of}
use Rattle.outbox.specs.Service.{IsService}
use Rattle.relay.specs.Relay.{RelayMark}
use Rattle.relay_fan.specs.Fan.{IsAtEnd, HasCauseOfFault, EndsAtRoute, Hands, LeavesLane, Delivers, AtEach, calls_until}
use Rattle.relay_fan.specs.steps.Lane.{MovesLane, Carries, Rests, AllAtPlaces, AreAny, AreBetween, ArePlaced, calls_to, end_after, end_of_lane}
use Rattle.relay_fan.specs.steps.Slot.{IsEnded}
use Rattle.relay.specs.declared.fault.RelayFault.{RelayFault}
use Rattle.relay.specs.declared.fault.RelayFault.TheVariants.{GateShut}
use Rattle.relay_fan.specs.declared.fan.lane.Lane.{Lane}
use Rattle.relay_fan.specs.declared.fan.slot.Slot.{Slot}
use Rattle.relay_fan.specs.declared.fan.slot.Slot.TheVariants.{Ended}
use Rattle.relay_fan.specs.declared.fan.End.{End}
use Rattle.relay_fan.specs.declared.fan.End.TheVariants.{Done, Failed}

nil_of : {A : Type 0} (l : List A) → length l ≡ 0 → l ≡ []
nil_of [] is = refl
nil_of (x ∷ l) is = absurd (omega (arith, is))

all_more : {A : Type 0} (P : A → Type 0) (xs : List A) (x : A) → All P xs → P x → All P (xs ++ x ∷ [])
all_more P xs x h k = All-append P xs (x ∷ []) h (All-from_recursion P (x ∷ []) (k, tt))

placed_more : {R : Type 0} (place : ℕ) (lanes : List (Lane R)) (lane : Lane R) → ArePlaced place lanes → lane.place ≡ length lanes + place → ArePlaced place (lanes ++ lane ∷ [])
placed_more place [] lane h at = (at ∙ (let e : 0 + place ≡ place = omega arith in e), tt)
placed_more place (x ∷ xs) lane h at = (h.0, placed_more (suc place) xs lane h.1 (at ∙ (let e : suc (length xs) + place ≡ length xs + suc place = omega arith in e)))

-- the first lanes are made, of the relays in their order and the routes but for the rest
abbrev pub Filled : {R : Type 0} → List RelayMark → List R → List (Lane R) → ℕ → List R → Type 0
Filled relays routes lanes place rest =
    (map (λ x. x.route) lanes ++ rest ≡ routes) × (map (λ x. x.relay) lanes ≡ take place relays)
    × (length lanes ≡ place) × All (λ x. (x.fault ≡ None) × (x.calls ≡ 0)) lanes
    × ArePlaced 0 lanes

pub filled_none : {R : Type 0} (relays : List RelayMark) (routes : List R) (lanes : List (Lane R)) (rest : List R) → lanes ≡ [] → rest ≡ routes → Filled relays routes lanes 0 rest
filled_none relays routes lanes rest none is = subst (λ l. Filled relays routes l 0 rest) (sym none) (is, refl, refl, λ k d low. absurd (omega (arith, low)), tt)

pub filled_more : {R : Type 0} (relays : List RelayMark) (routes : List R) (lanes news : List (Lane R)) (place : ℕ) (rest left : List R) (lane : Lane R) → Filled relays routes lanes place rest → rest ≡ lane.route ∷ left → place < length relays → lane.relay ≡ get_or relays place lane.relay → lane.fault ≡ None → lane.calls ≡ 0 → lane.place ≡ place → news ≡ lanes ++ lane ∷ [] → Filled relays routes news (place + 1) left
filled_more {R} relays routes lanes news place rest left lane h first low is goes none at made = subst (λ l. Filled relays routes l (place + 1) left) (sym made) (
  ap (λ l. l ++ left) (map-append (λ (x : Lane R). x.route) lanes (lane ∷ [])) ∙ append_assoc (map (λ (x : Lane R). x.route) lanes) (lane.route ∷ []) left ∙ ap (λ r. map (λ (x : Lane R). x.route) lanes ++ r) (sym first) ∙ h.0,
  map-append (λ (x : Lane R). x.relay) lanes (lane ∷ []) ∙ ap (λ l. l ++ lane.relay ∷ []) h.1 ∙ ap (λ m. take place relays ++ m ∷ []) is ∙ sym (take_more relays place lane.relay low),
  length-append lanes (lane ∷ []) ∙ ap (λ n. n + 1) h.2,
  all_more (λ x. (x.fault ≡ None) × (x.calls ≡ 0)) lanes lane h.3 (goes, none),
  placed_more 0 lanes lane h.4 (at ∙ sym h.2 ∙ (let e : length lanes ≡ length lanes + 0 = omega arith in e)),
)

pub filled_low : {R : Type 0} (relays : List RelayMark) (routes : List R) (lanes : List (Lane R)) (place : ℕ) (rest left : List R) (route : R) → Filled relays routes lanes place rest → rest ≡ route ∷ left → place < length routes
filled_low {R} relays routes lanes place rest left route h first =
    let all : length (map (λ (x : Lane R). x.route) lanes) + length rest ≡ length routes = sym (length-append (map (λ (x : Lane R). x.route) lanes) rest) ∙ ap length h.0 in
    let some : length rest ≡ suc (length left) = ap length first in
    let made : length (map (λ (x : Lane R). x.route) lanes) ≡ length lanes = length_map (λ (x : Lane R). x.route) lanes in
    omega (arith, all, some, made, h.2)
  where
    length_map : {A B : Type 0} (f : A → B) (l : List A) → length (map f l) ≡ length l
    length_map f [] = refl
    length_map f (x ∷ l) = ap suc (length_map f l)

pub filled_routes : {R : Type 0} (relays : List RelayMark) (routes : List R) (lanes : List (Lane R)) (place : ℕ) (rest : List R) → Filled relays routes lanes place rest → length rest ≡ 0 → map (λ x. x.route) lanes ≡ routes
filled_routes {R} relays routes lanes place rest h none = sym (append-nil (map (λ (x : Lane R). x.route) lanes)) ∙ ap (λ r. map (λ (x : Lane R). x.route) lanes ++ r) (sym (nil_of rest none)) ∙ h.0

pub filled_relays : {R : Type 0} (relays : List RelayMark) (routes : List R) (lanes : List (Lane R)) (place : ℕ) (rest : List R) → Filled relays routes lanes place rest → length rest ≡ 0 → length relays ≡ length routes → map (λ x. x.relay) lanes ≡ relays
filled_relays {R} relays routes lanes place rest h none paired =
    let all : length (map (λ (x : Lane R). x.route) lanes) + length rest ≡ length routes = sym (length-append (map (λ (x : Lane R). x.route) lanes) rest) ∙ ap length h.0 in
    let made : length (map (λ (x : Lane R). x.route) lanes) ≡ length lanes = length_map (λ (x : Lane R). x.route) lanes in
    h.1 ∙ take_all place relays (omega (arith, all, made, h.2, none, paired))
  where
    length_map : {A B : Type 0} (f : A → B) (l : List A) → length (map f l) ≡ length l
    length_map f [] = refl
    length_map f (x ∷ l) = ap suc (length_map f l)

-- one more of the rest is put among those that are done
pub put_more : {A : Type 0} → {B : Type 0} (f : A → B) (done new : List B) (x : A) (rest left : List A) (all : List B) → done ++ map f rest ≡ all → rest ≡ x ∷ left → new ≡ done ++ f x ∷ [] → new ++ map f left ≡ all
put_more f done new x rest left all h first is =
    ap (λ l. l ++ map f left) is ∙ append_assoc done (f x ∷ []) (map f left) ∙ ap (λ r. done ++ map f r) (sym first) ∙ h

pub put_room : {A : Type 0} → {B : Type 0} (done new : List B) (y : B) (x : A) (rest left : List A) (cap grown : ℕ) → length done + length rest ≤ cap → rest ≡ x ∷ left → new ≡ done ++ y ∷ [] → cap ≤ grown → length new + length left ≤ grown
put_room done new y x rest left cap grown h first is more =
    let one : length new ≡ length done + 1 = ap length is ∙ length-append done (y ∷ []) in
    let some : length rest ≡ suc (length left) = ap length first in
    omega (arith, one, some, h, more)

pub put_low : {A : Type 0} → {B : Type 0} (done : List B) (x : A) (rest left : List A) (cap : ℕ) → length done + length rest ≤ cap → rest ≡ x ∷ left → length done < cap
put_low done x rest left cap h first = let some : length rest ≡ suc (length left) = ap length first in omega (arith, some, h)

pub put_all : {A : Type 0} → {B : Type 0} (f : A → B) (done : List B) (rest : List A) (all : List B) → done ++ map f rest ≡ all → length rest ≡ 0 → done ≡ all
put_all f done rest all h none = sym (append-nil done) ∙ ap (λ r. done ++ map f r) (sym (nil_of rest none)) ∙ h

-- an ended lane is put among those that are done
pub ended_low : {R G : Type 0} (done : List (Lane R)) (rest left all : List (Slot R G)) (slot : Slot R G) → map Ended done ++ rest ≡ all → rest ≡ slot ∷ left → All IsEnded all → IsEnded slot
ended_low {R} {G} done rest left all slot h first ended = go done (recursion_from_All IsEnded (map Ended done ++ slot ∷ left) (subst (All IsEnded) (sym h ∙ ap (λ r. map Ended done ++ r) first) ended))
  where
    go : (d : List (Lane R)) → AllByRecursion IsEnded (map Ended d ++ slot ∷ left) → IsEnded slot
    go [] k = k.0
    go (x ∷ d) k = go d k.1

pub ended_more : {R G : Type 0} (done new : List (Lane R)) (rest left all : List (Slot R G)) (lane : Lane R) → map Ended done ++ rest ≡ all → rest ≡ Ended lane ∷ left → new ≡ done ++ lane ∷ [] → map Ended new ++ left ≡ all
ended_more done new rest left all lane h first is = ap (λ l. map Ended l ++ left) is ∙ ap (λ l. l ++ left) (map-append Ended done (lane ∷ [])) ∙ append_assoc (map Ended done) (Ended lane ∷ []) left ∙ ap (λ r. map Ended done ++ r) (sym first) ∙ h

pub ended_all : {R G : Type 0} (done : List (Lane R)) (rest all : List (Slot R G)) → map Ended done ++ rest ≡ all → length rest ≡ 0 → map Ended done ≡ all
ended_all done rest all h none = sym (append-nil (map Ended done)) ∙ ap (λ r. map Ended done ++ r) (sym (nil_of rest none)) ∙ h

-- what holds of each lane holds at each place of the lists that they were made of and made
each_at : {R : Type 0} (Holds : Lane R → Lane R → Type 0) (Shows : ℕ → RelayMark → RelayMark → R → R → End → Type 0) → ((o n : Lane R) → Holds o n → Shows o.place o.relay n.relay o.route n.route (end_of_lane n))
    → (place : ℕ) (olds news : List (Lane R)) → ArePlaced place olds → AllAtPlaces Holds olds news → AtEach (map (λ x. x.relay) olds) (map (λ x. x.relay) news) (map (λ x. x.route) olds) (map (λ x. x.route) news) (map end_of_lane news) (λ i. Shows (place + i))
each_at Holds Shows show place [] [] are h i old new route back e p q s t u = absurd (cc)
each_at Holds Shows show place [] (n ∷ news) are h i old new route back e p q s t u = absurd h
each_at Holds Shows show place (o ∷ olds) [] are h i old new route back e p q s t u = absurd h
each_at {R} Holds Shows show place (o ∷ olds) (n ∷ news) are h zero old new route back e p q s t u =
    let a : o.relay ≡ old = cc in
    let b : n.relay ≡ new = cc in
    let c : o.route ≡ route = cc in
    let d : n.route ≡ back = cc in
    let f : end_of_lane n ≡ e = cc in
    let at : o.place ≡ place + 0 = omega (arith, are.0) in
    subst (λ x. Shows x old new route back e) at (subst (λ x. Shows o.place x new route back e) a (subst (λ x. Shows o.place o.relay x route back e) b (subst (λ x. Shows o.place o.relay n.relay x back e) c (subst (λ x. Shows o.place o.relay n.relay o.route x e) d (subst (λ x. Shows o.place o.relay n.relay o.route n.route x) f (show o n h.0))))))
each_at Holds Shows show place (o ∷ olds) (n ∷ news) are h (suc i) old new route back e p q s t u =
    subst (λ x. Shows x old new route back e) (let k : suc place + i ≡ place + suc i = omega arith in k) (each_at Holds Shows show (suc place) olds news are.1 h.1 i old new route back e p q s t u)

at_lists : {R : Type 0} (Shows : ℕ → RelayMark → RelayMark → R → R → End → Type 0) (a a' b b' : List RelayMark) (c c' d d' : List R) (e e' : List End) → AtEach a b c d e (λ i. Shows (0 + i)) → a ≡ a' → b' ≡ b → c ≡ c' → d' ≡ d → e' ≡ e → AtEach a' b' c' d' e' Shows
at_lists Shows a a' b b' c c' d d' e e' h p q s t u i old new route back end v w x y z =
    subst (λ n. Shows n old new route back end) (let k : 0 + i ≡ i = omega arith in k)
    (h i old new route back end (ap (λ l. slice_get l i) p ∙ v) (ap (λ l. slice_get l i) (sym q) ∙ w) (ap (λ l. slice_get l i) s ∙ x) (ap (λ l. slice_get l i) (sym t) ∙ y) (ap (λ l. slice_get l i) (sym u) ∙ z))

-- what the end of a lane did to its route
closes : {R : Type 0} (has_failed : R → R → Type 0) (before route : R) (o : Option RelayFault) → MatchOption o (route ≡ before) (HasCauseOfFault has_failed before route) → EndsAtRoute has_failed before route (end_after o)
closes has_failed before route (Some f) h = h
closes has_failed before route None h = h

same_calls : (o : Option RelayFault) (pages : ℕ) → calls_to o pages ≡ calls_until (end_after o) pages
same_calls None pages = refl
same_calls (Some f) pages = refl

shut_at : (o : Option RelayFault) → end_after o ≡ Failed GateShut → o ≡ Some GateShut
shut_at None is = absurd (cc)
shut_at (Some f) is = let same : f ≡ GateShut = cc in ap Some same

-- the lane hadn't begun
abbrev pub IsFresh : {R : Type 0} → Lane R → Type 0
IsFresh lane = (lane.fault ≡ None) × (lane.calls ≡ 0)

module _ {R : Type 0} (accepted : R → List EventValue) (takes : R → List EventValue → R → Type 0) (has_failed : R → R → Type 0) (lets shuts heard : ℕ → ℕ → Type 0) where
  ended : (o n : Lane R) (pages : List (List EventValue)) → o.calls ≡ 0 → Rattle.relay_fan.specs.steps.Lane.Hands takes has_failed lets shuts heard o n pages → Hands takes has_failed lets shuts heard o.place o.route n.route (end_of_lane n) pages
  ended o n pages none h = record {
    before = h.before;
    taken = h.taken;
    closed = closes has_failed h.before n.route n.fault h.closed;
    sized = h.sized;
    gated = record {
      through = subst (λ z. LetsThrough lets heard o.place 0 z) (same_calls n.fault (length pages)) (subst (λ z. LetsThrough lets heard o.place z (calls_to n.fault (length pages))) none h.through);
      shut = λ s. subst (λ z. shuts o.place (z + 1)) (let e : o.calls + length pages ≡ length pages = omega (arith, none) in e) (h.shut (shut_at n.fault s));
    };
  }

  leaves : (o n : Lane R) → IsFresh o × MovesLane accepted takes has_failed lets shuts heard o n → LeavesLane accepted takes has_failed lets shuts heard o.place o.relay n.relay o.route n.route (end_of_lane n)
  leaves o n h =
      let pages : (pages : List (List EventValue)) × (Rattle.relay_fan.specs.steps.Lane.Hands takes has_failed lets shuts heard o n pages × AreAny pages) = h.1.handed h.0.0 in
      record { site = h.1.site; forward = h.1.forward; kept = h.1.kept; handed = (pages.0, ended o n pages.0 h.0.1 pages.1.0) }

  delivers : (base : ℕ) (rows : List EventValue) (o n : Lane R) → IsFresh o × (Carries accepted takes has_failed lets shuts heard base rows o n × (n.fault ≡ None → IsAtEnd base rows n.relay.mark)) → Delivers accepted takes has_failed lets shuts heard base rows o.place o.relay n.relay o.route n.route (end_of_lane n)
  delivers base rows o n h =
      let pages : (pages : List (List EventValue)) × (Rattle.relay_fan.specs.steps.Lane.Hands takes has_failed lets shuts heard o n pages × AreBetween base rows o.relay.mark n.relay.mark pages) = h.1.0.handed h.0.0 in
      record {
        sent = h.1.0.sent;
        new_rows = h.1.0.new_rows;
        handed = (pages.0, (ended o n pages.0 h.0.1 pages.1.0, pages.1.1));
        reached = h.1.0.within;
        done = λ is. h.1.1 (not_stopped n.fault is);
      }
    where
      not_stopped : (x : Option RelayFault) → end_after x ≡ Done → x ≡ None
      not_stopped None is = refl
      not_stopped (Some f) is = absurd (cc)

  each_from : (P Q : Lane R → Lane R → Type 0) → ((x y : Lane R) → IsFresh x → P x y → Q x y) → (xs ys : List (Lane R)) → AllByRecursion IsFresh xs → AllAtPlaces P xs ys → AllAtPlaces Q xs ys
  each_from P Q one [] [] f h = tt
  each_from P Q one [] (y ∷ ys) f h = absurd h
  each_from P Q one (x ∷ xs) [] f h = absurd h
  each_from P Q one (x ∷ xs) (y ∷ ys) f h = (one x y f.0 h.0, each_from P Q one xs ys f.1 h.1)

  pub fan_leaves : (source : List ℕ) (base : ℕ) (db : Database) (b : State) (olds news : List (Lane R)) (relays after : List RelayMark) (routes back : List R) (ends : List End)
      → All IsFresh olds → ArePlaced 0 olds → AllAtPlaces (Rests accepted takes has_failed lets shuts heard source base db b) olds news
      → map (λ x. x.relay) olds ≡ relays → after ≡ map (λ x. x.relay) news → map (λ x. x.route) olds ≡ routes → back ≡ map (λ x. x.route) news → ends ≡ map end_of_lane news
      → AtEach relays after routes back ends (LeavesLane accepted takes has_failed lets shuts heard)
  fan_leaves source base db b olds news relays after routes back ends fresh placed rests p q s t u =
      at_lists (LeavesLane accepted takes has_failed lets shuts heard) _ relays _ after _ routes _ back _ ends
      (each_at (λ x y. IsFresh x × MovesLane accepted takes has_failed lets shuts heard x y) (LeavesLane accepted takes has_failed lets shuts heard) leaves 0 olds news placed
      (each_from (Rests accepted takes has_failed lets shuts heard source base db b) (λ x y. IsFresh x × MovesLane accepted takes has_failed lets shuts heard x y) (λ x y f r. (f, r.comes.moves)) olds news (recursion_from_All IsFresh olds fresh) rests)) p q s t u

  pub fan_delivers : (source : List ℕ) (base : ℕ) (db : Database) (b : State) (commands : List Accepted) (olds news : List (Lane R)) (relays after : List RelayMark) (routes back : List R) (ends : List End)
      → HasCleanDisk b → IsService db source base commands → All IsFresh olds → ArePlaced 0 olds → AllAtPlaces (Rests accepted takes has_failed lets shuts heard source base db b) olds news
      → map (λ x. x.relay) olds ≡ relays → after ≡ map (λ x. x.relay) news → map (λ x. x.route) olds ≡ routes → back ≡ map (λ x. x.route) news → ends ≡ map end_of_lane news
      → AtEach relays after routes back ends (Delivers accepted takes has_failed lets shuts heard base (rows_of source base commands))
  fan_delivers source base db b commands olds news relays after routes back ends clean is fresh placed rests p q s t u =
      let rows = rows_of source base commands in
      at_lists (Delivers accepted takes has_failed lets shuts heard base rows) _ relays _ after _ routes _ back _ ends
      (each_at (λ x y. IsFresh x × (Carries accepted takes has_failed lets shuts heard base rows x y × (y.fault ≡ None → IsAtEnd base rows y.relay.mark))) (Delivers accepted takes has_failed lets shuts heard base rows) (delivers base rows) 0 olds news placed
      (each_from (Rests accepted takes has_failed lets shuts heard source base db b) (λ x y. IsFresh x × (Carries accepted takes has_failed lets shuts heard base rows x y × (y.fault ≡ None → IsAtEnd base rows y.relay.mark))) (λ x y f r. (f, (r.comes.carries clean commands is, λ none. r.done none clean commands is))) olds news (recursion_from_All IsFresh olds fresh) rests)) p q s t u
