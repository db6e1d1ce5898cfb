-- Lanes on their way through rows.
use Rattle.std.proofs.Common.{◌≡◌, ◌⊎◌, ◌+◌, ◌-◌, ◌<◌, ◌≤◌, inl, inr, ℕ, zero, suc, Bool, true, false, nat_lt, List, [], ◌∷◌, ◌++◌, length, take, drop, slice_get, Some, None, Option, IsSome, append_assoc, refl, sym, ap, subst, ◌∙◌, arith}
use Rattle.std.specs.Prelude.{⊤, MatchOption}
use Rattle.std.specs.List.{AllByRecursion}
use Rattle.std.proofs.lemmas.Bool.{cases_lt}
use Rattle.std.proofs.lemmas.Bool.Decides.{nat_tests}
use Rattle.std.proofs.lemmas.List.{length-append}
use Rattle.attributes.specs.Event.{EventValue}
use Rattle.site.specs.Gate.{LetsThrough}
use Rattle.relay.specs.Route.{Has, AreIn, AreFromEither}
use Rattle.relay_fan.specs.Fan.{AreSent, HasCauseOfFault, IsPage, TakesAll, calls_until, joined, rows_between}
use Rattle.relay_fan.specs.steps.Lane.{MovesLane, Carries, AllAtPlaces, Hands, HandsOver, IsClosed, IsQuiet, FailsAt, AreAny, AreBetween, calls_to}
use Rattle.relay_fan.specs.declared.fan.End.TheVariants.{Failed}
use Rattle.relay_fan.specs.declared.fan.lane.Lane.{Lane}
use Rattle.relay.specs.declared.fault.RelayFault.{RelayFault}
use Rattle.relay.specs.declared.fault.RelayFault.TheVariants.{OutOfMemory, RouteFailed, Stranger, Store, NoThread, GateShut}
use Rattle.relay.proofs.RouteLemmas.{has_left, has_right, has_either}

pub sent_none : (base : ℕ) (rows : List EventValue) (mark : ℕ) (events : List EventValue) → AreSent base rows mark mark events
sent_none base rows mark events number e low high is = absurd (omega (arith, low, high))

pub sent_then : (base : ℕ) (rows : List EventValue) (a b c : ℕ) (x y : List EventValue) → AreSent base rows a b x → AreIn x y → AreSent base rows b c y → AreSent base rows a c y
sent_then base rows a b c x y h keeps k number e low high is = go (nat_lt b number) refl
  where
    go : (t : Bool) → nat_lt b number ≡ t → Has y e
    go true more = k number e (grind (arith, nat_tests, more)) high is
    go false less = keeps e (h number e low (grind (arith, nat_tests, less)) is)

pub sent_in : (base : ℕ) (rows : List EventValue) (a b : ℕ) (x y : List EventValue) → AreSent base rows a b x → AreIn x y → AreSent base rows a b y
sent_in base rows a b x y h keeps number e low high is = keeps e (h number e low high is)

has_at : (rows : List EventValue) (i : ℕ) (e : EventValue) → slice_get rows i ≡ Some e → Has rows e
has_at [] i e at = absurd (cc)
has_at (x ∷ rows) zero e at = inl (let k : e ≡ x = cc in k)
has_at (x ∷ rows) (suc i) e at = inr (has_at rows i e at)

-- one more row is copied
sent_more : (rows page : List EventValue) (from to : ℕ) (e : EventValue) → slice_get rows to ≡ Some e → AreSent 0 rows from to page → AreSent 0 rows from (to + 1) (page ++ e ∷ [])
sent_more rows page from to e at h number f low high is = go (nat_lt to number) refl
  where
    go : (t : Bool) → nat_lt to number ≡ t → Has (page ++ e ∷ []) f
    go false less = has_left page (e ∷ []) f (h number f low (grind (arith, nat_tests, less)) is)
    go true more =
        let last : to < number = grind (arith, nat_tests, more) in
        let same : number - suc 0 ≡ to = omega (arith, last, high) in
        let k : ◌≡◌ {A = Option EventValue} (Some f) (Some e) = sym is.1 ∙ (ap (slice_get rows) same ∙ at) in
        let one : f ≡ e = cc in
        has_right page (e ∷ []) f (inl one)

pub copied_more : (rows page : List EventValue) (from to : ℕ) (e : EventValue) → slice_get rows to ≡ Some e → AreSent 0 rows from to page × AreIn page rows
    → AreSent 0 rows from (to + 1) (page ++ e ∷ []) × AreIn (page ++ e ∷ []) rows
copied_more rows page from to e at h = (
  sent_more rows page from to e at h.0,
  λ f k. elim (has_either page (e ∷ []) f k) [ inl was ↦ h.1 f was | inr it ↦ elim it [ inl is ↦ subst (Has rows) (sym is) (has_at rows to e at) | inr not ↦ absurd not ] ],
)

-- places of a window are numbers after its start
pub sent_shift : (rows page : List EventValue) (start mark to : ℕ) → AreSent 0 rows (mark - start) to page → AreSent start rows mark (start + to) page
sent_shift rows page start mark to h number e low high is =
    let above : start < number = is.0 in
    let same : number - start - suc 0 ≡ number - suc start = omega arith in
    h (number - start) e (omega (arith, low, above)) (omega (arith, high)) (omega (arith, above), ap (slice_get rows) same ∙ is.1)

pub in_then : (a b c : List EventValue) → AreIn a b → AreIn b c → AreIn a c
in_then a b c h k e x = k e (h e x)

pub of_then : (a b c rows : List EventValue) → AreFromEither b a rows → AreFromEither c b rows → AreFromEither c a rows
of_then a b c rows h k e x = elim (k e x) [ inl was ↦ h e was | inr new ↦ inr new ]

pub of_in : (a b page rows : List EventValue) → AreFromEither b a page → AreIn page rows → AreFromEither b a rows
of_in a b page rows h k e x = elim (h e x) [ inl was ↦ inl was | inr new ↦ inr (k e new) ]

-- pages after pages
pub takes_then : {R : Type 0} (takes : R → List EventValue → R → Type 0) (a b c : R) (ps qs : List (List EventValue)) → TakesAll takes a ps b → TakesAll takes b qs c → TakesAll takes a (ps ++ qs) c
takes_then takes a b c [] qs h k = subst (λ r. TakesAll takes r qs c) h k
takes_then takes a b c (p ∷ ps) qs h k = (h.0, (h.1.0, takes_then takes h.0 b c ps qs h.1.1 k))

sized_then : (ps qs : List (List EventValue)) → AllByRecursion IsPage ps → AllByRecursion IsPage qs → AllByRecursion IsPage (ps ++ qs)
sized_then [] qs h k = k
sized_then (p ∷ ps) qs h k = (h.0, sized_then ps qs h.1 k)

joined_then : (ps qs : List (List EventValue)) → joined (ps ++ qs) ≡ joined ps ++ joined qs
joined_then [] qs = refl
joined_then (p ∷ ps) qs = ap (λ l. p ++ l) (joined_then ps qs) ∙ sym (append_assoc p (joined ps) (joined qs))

drop_nil : (n : ℕ) → ◌≡◌ {A = List EventValue} (drop n []) []
drop_nil zero = refl
drop_nil (suc n) = refl

drop_take : (n m : ℕ) (l : List EventValue) → m ≤ n → drop n (take m l) ≡ []
drop_take n zero l low = drop_nil n
drop_take n (suc m) [] low = drop_nil n
drop_take zero (suc m) (x ∷ l) low = absurd (omega (arith, low))
drop_take (suc n) (suc m) (x ∷ l) low = drop_take n m l (omega (arith, low))

slices : (x y z : ℕ) (l : List EventValue) → x ≤ y → y ≤ z → drop x (take y l) ++ drop y (take z l) ≡ drop x (take z l)
slices zero zero z l low high = refl
slices (suc x) zero z l low high = absurd (omega (arith, low))
slices x (suc y) zero l low high = absurd (omega (arith, high))
slices zero (suc y) (suc z) [] low high = refl
slices (suc x) (suc y) (suc z) [] low high = refl
slices zero (suc y) (suc z) (e ∷ l) low high = ap (λ r. e ∷ r) (slices zero y z l (omega arith) (omega (arith, high)))
slices (suc x) (suc y) (suc z) (e ∷ l) low high = slices x y z l (omega (arith, low)) (omega (arith, high))

pub between_none : (base : ℕ) (rows : List EventValue) (mark : ℕ) → rows_between base rows mark mark ≡ []
between_none base rows mark = drop_take (mark - base) (mark - base) rows (omega arith)

pub between_then : (base : ℕ) (rows : List EventValue) (a b c : ℕ) → a ≤ b → b ≤ c → rows_between base rows a b ++ rows_between base rows b c ≡ rows_between base rows a c
between_then base rows a b c low high = slices (a - base) (b - base) (c - base) rows (omega (arith, low)) (omega (arith, high))

-- calls after calls
through_none : (lets heard : ℕ → ℕ → Type 0) (worker first : ℕ) → LetsThrough lets heard worker first 0
through_none lets heard worker first k low high = let no : ⊥ = omega (arith, low, high) in absurd no

through_one : (lets heard : ℕ → ℕ → Type 0) (worker first : ℕ) → lets worker (first + 1) → heard worker (first + 1) → LetsThrough lets heard worker first 1
through_one lets heard worker first let_in told k low high = let is : first + 1 ≡ k = omega (arith, low, high) in (subst (λ z. lets worker z) is let_in, subst (λ z. heard worker z) is told)

through_on : (lets heard : ℕ → ℕ → Type 0) (worker first count more : ℕ) → LetsThrough lets heard worker first count → LetsThrough lets heard worker (first + count) more → LetsThrough lets heard worker first (count + more)
through_on lets heard worker first count more h j k low high = elim (cases_lt (first + count) k) [
  | inl above ↦ j k above (omega (arith, high))
  | inr within ↦ h k low within
]

calls_past : (o : Option RelayFault) (n m : ℕ) → n + calls_to o m ≡ calls_to o (n + m)
calls_past None n m = refl
calls_past (Some OutOfMemory) n m = refl
calls_past (Some RouteFailed) n m = omega arith
calls_past (Some Stranger) n m = refl
calls_past (Some Store) n m = refl
calls_past (Some NoThread) n m = refl
calls_past (Some GateShut) n m = refl

-- nothing was handed over
pub hands_none : {R : Type 0} (takes : R → List EventValue → R → Type 0) (has_failed : R → R → Type 0) (lets shuts heard : ℕ → ℕ → Type 0) (old new : Lane R) → IsClosed has_failed old.route new → (new.fault ≡ None → new.calls ≡ old.calls) → LetsThrough lets heard old.place old.calls (calls_to new.fault 0) → (new.fault ≡ Some GateShut → shuts old.place (old.calls + 1)) → Hands takes has_failed lets shuts heard old new []
hands_none takes has_failed lets shuts heard old new h counts through shut = record {
  before = old.route;
  taken = refl;
  closed = h;
  sized = tt;
  counted = λ none. let is = counts none in omega (arith, is);
  through = through;
  shut = λ s. subst (λ z. shuts old.place (z + 1)) (let k : old.calls ≡ old.calls + 0 = omega arith in k) (shut s);
}

-- one page was handed over
pub hands_one : {R : Type 0} (takes : R → List EventValue → R → Type 0) (has_failed : R → R → Type 0) (lets shuts heard : ℕ → ℕ → Type 0) (old new : Lane R) (page : List EventValue) → IsPage page → takes old.route page new.route → new.fault ≡ None → new.calls ≡ old.calls + 1 → lets old.place (old.calls + 1) → heard old.place (old.calls + 1) → Hands takes has_failed lets shuts heard old new (page ∷ [])
hands_one {R} takes has_failed lets shuts heard old new page sized h goes one let_in told = record {
  before = new.route;
  taken = (new.route, (h, refl));
  closed = subst (λ (o : Option RelayFault). MatchOption o (new.route ≡ new.route) (HasCauseOfFault has_failed new.route new.route)) (sym goes) refl;
  sized = (sized, tt);
  counted = λ none. one;
  through = subst (λ (o : Option RelayFault). LetsThrough lets heard old.place old.calls (calls_to o 1)) (sym goes) (through_one lets heard old.place old.calls let_in told);
  shut = λ s. let no : ⊥ = none_some new.fault GateShut goes s in absurd no;
}
  where
    none_some : (o : Option RelayFault) (f : RelayFault) → o ≡ None → o ≡ Some f → ⊥
    none_some (Some x) f is s = absurd (cc)
    none_some None f is s = absurd (cc)

-- the lane was at rest
pub hands_rest : {R : Type 0} (takes : R → List EventValue → R → Type 0) (has_failed : R → R → Type 0) (lets shuts heard : ℕ → ℕ → Type 0) (lane : Lane R) → lane.fault ≡ None → Hands takes has_failed lets shuts heard lane lane []
hands_rest takes has_failed lets shuts heard lane goes =
    hands_none takes has_failed lets shuts heard lane lane (subst (λ (o : Option RelayFault). MatchOption o (lane.route ≡ lane.route) (HasCauseOfFault has_failed lane.route lane.route)) (sym goes) refl)
    (λ none. refl) (subst (λ (o : Option RelayFault). LetsThrough lets heard lane.place lane.calls (calls_to o 0)) (sym goes) (through_none lets heard lane.place lane.calls)) (λ s. let no : ⊥ = none_some lane.fault GateShut goes s in absurd no)
  where
    none_some : (o : Option RelayFault) (f : RelayFault) → o ≡ None → o ≡ Some f → ⊥
    none_some (Some x) f is s = absurd (cc)
    none_some None f is s = absurd (cc)

pub over_then : {R : Type 0} (takes : R → List EventValue → R → Type 0) (has_failed : R → R → Type 0) (lets shuts heard : ℕ → ℕ → Type 0) (P Q T : List (List EventValue) → Type 0) (a b c : Lane R) → b.place ≡ a.place → (IsSome b.fault → c ≡ b) → ((ps : List (List EventValue)) → c ≡ b → P ps → T ps) → ((ps qs : List (List EventValue)) → P ps → Q qs → T (ps ++ qs))
    → HandsOver takes has_failed lets shuts heard P a b → HandsOver takes has_failed lets shuts heard Q b c → HandsOver takes has_failed lets shuts heard T a c
over_then {R} takes has_failed lets shuts heard P Q T a b c place idle same both h k goes = go b.fault refl
  where
    first : (pages : List (List EventValue)) × (Hands takes has_failed lets shuts heard a b pages × P pages)
    first = h goes

    go : (o : Option RelayFault) → b.fault ≡ o → (pages : List (List EventValue)) × (Hands takes has_failed lets shuts heard a c pages × T pages)
    go None is =
        let second : (pages : List (List EventValue)) × (Hands takes has_failed lets shuts heard b c pages × Q pages) = k is in
        let there : b.route ≡ first.1.0.before = subst (λ (x : Option RelayFault). MatchOption x (b.route ≡ first.1.0.before) (HasCauseOfFault has_failed first.1.0.before b.route)) is first.1.0.closed in
        let many : length (first.0 ++ second.0) ≡ length first.0 + length second.0 = length-append first.0 second.0 in
        let made : b.calls ≡ a.calls + length first.0 = first.1.0.counted is in
        let before : LetsThrough lets heard a.place a.calls (length first.0) = subst (λ (x : Option RelayFault). LetsThrough lets heard a.place a.calls (calls_to x (length first.0))) is first.1.0.through in
        let after : LetsThrough lets heard a.place (a.calls + length first.0) (calls_to c.fault (length second.0)) =
        subst (λ z. LetsThrough lets heard a.place z (calls_to c.fault (length second.0))) made (subst (λ z. LetsThrough lets heard z b.calls (calls_to c.fault (length second.0))) place second.1.0.through) in
        let all : LetsThrough lets heard a.place a.calls (length first.0 + calls_to c.fault (length second.0)) = through_on lets heard a.place a.calls (length first.0) (calls_to c.fault (length second.0)) before after in (
          first.0 ++ second.0,
          (
            record {
              before = second.1.0.before;
              taken = takes_then takes a.route b.route second.1.0.before first.0 second.0 (subst (λ r. TakesAll takes a.route first.0 r) (sym there) first.1.0.taken) second.1.0.taken;
              closed = second.1.0.closed;
              sized = sized_then first.0 second.0 first.1.0.sized second.1.0.sized;
              counted = λ none. let is2 = second.1.0.counted none in omega (arith, is2, made, many);
              through = subst (λ z. LetsThrough lets heard a.place a.calls z) (calls_past c.fault (length first.0) (length second.0) ∙ ap (calls_to c.fault) (sym many)) all;
              shut = λ s. subst (λ z. shuts a.place (z + 1)) (let e : b.calls + length second.0 ≡ a.calls + length (first.0 ++ second.0) = omega (arith, made, many) in e) (subst (λ z. shuts z (b.calls + length second.0 + 1)) place (second.1.0.shut s));
            },
            both first.0 second.0 first.1.1 second.1.1,
          ),
        )
    go (Some f) is =
        let one : c ≡ b = idle (subst (λ (x : Option RelayFault). IsSome x) (sym is) refl) in
        (first.0, (subst (λ (l : Lane R). Hands takes has_failed lets shuts heard a l first.0) (sym one) first.1.0, same first.0 one first.1.1))

-- marks that meet
pub over_between : {R : Type 0} (takes : R → List EventValue → R → Type 0) (has_failed : R → R → Type 0) (lets shuts heard : ℕ → ℕ → Type 0) (base : ℕ) (rows : List EventValue) (a b c : Lane R) → b.place ≡ a.place → (IsSome b.fault → c ≡ b) → a.relay.mark ≤ b.relay.mark → b.relay.mark ≤ c.relay.mark
    → HandsOver takes has_failed lets shuts heard (AreBetween base rows a.relay.mark b.relay.mark) a b → HandsOver takes has_failed lets shuts heard (AreBetween base rows b.relay.mark c.relay.mark) b c → HandsOver takes has_failed lets shuts heard (AreBetween base rows a.relay.mark c.relay.mark) a c
over_between {R} takes has_failed lets shuts heard base rows a b c place idle low high h k =
    over_then takes has_failed lets shuts heard (AreBetween base rows a.relay.mark b.relay.mark) (AreBetween base rows b.relay.mark c.relay.mark) (AreBetween base rows a.relay.mark c.relay.mark) a b c place idle
    (λ ps same are. are ∙ ap (λ (l : Lane R). rows_between base rows a.relay.mark l.relay.mark) (sym same))
    (λ ps qs p q. joined_then ps qs ∙ ap (λ l. l ++ joined qs) p ∙ ap (λ l. rows_between base rows a.relay.mark b.relay.mark ++ l) q ∙ between_then base rows a.relay.mark b.relay.mark c.relay.mark low high)
    h k

pub moves_none : {R : Type 0} (accepted : R → List EventValue) (takes : R → List EventValue → R → Type 0) (has_failed : R → R → Type 0) (lets shuts heard : ℕ → ℕ → Type 0) (lane : Lane R) → MovesLane accepted takes has_failed lets shuts heard lane lane
moves_none accepted takes has_failed lets shuts heard lane = record { place = refl; site = refl; forward = omega arith; kept = λ e x. x; handed = λ goes. ([], (hands_rest takes has_failed lets shuts heard lane goes, tt)); idle = λ h. refl }

pub moves_then : {R : Type 0} (accepted : R → List EventValue) (takes : R → List EventValue → R → Type 0) (has_failed : R → R → Type 0) (lets shuts heard : ℕ → ℕ → Type 0) (a b c : Lane R) → MovesLane accepted takes has_failed lets shuts heard a b → MovesLane accepted takes has_failed lets shuts heard b c → MovesLane accepted takes has_failed lets shuts heard a c
moves_then accepted takes has_failed lets shuts heard a b c h k = record {
  place = k.place ∙ h.place;
  site = k.site ∙ h.site;
  forward = omega (arith, h.forward, k.forward);
  kept = λ e x. k.kept e (h.kept e x);
  handed = over_then takes has_failed lets shuts heard AreAny AreAny AreAny a b c h.place k.idle (λ ps same x. tt) (λ ps qs x y. tt) h.handed k.handed;
  idle = λ some. let one = h.idle some in k.idle (subst (λ l. IsSome l.fault) (sym one) some) ∙ one;
}

pub over_rest : {R : Type 0} (takes : R → List EventValue → R → Type 0) (has_failed : R → R → Type 0) (lets shuts heard : ℕ → ℕ → Type 0) (base : ℕ) (rows : List EventValue) (lane : Lane R) → HandsOver takes has_failed lets shuts heard (AreBetween base rows lane.relay.mark lane.relay.mark) lane lane
over_rest takes has_failed lets shuts heard base rows lane goes = ([], (hands_rest takes has_failed lets shuts heard lane goes, sym (between_none base rows lane.relay.mark)))

pub carries_none : {R : Type 0} (accepted : R → List EventValue) (takes : R → List EventValue → R → Type 0) (has_failed : R → R → Type 0) (lets shuts heard : ℕ → ℕ → Type 0) (start : ℕ) (rows : List EventValue) (lane : Lane R) → Carries accepted takes has_failed lets shuts heard start rows lane lane
carries_none accepted takes has_failed lets shuts heard start rows lane = record {
  moves = moves_none accepted takes has_failed lets shuts heard lane;
  within = inl refl;
  sent = sent_none start rows lane.relay.mark (accepted lane.route);
  new_rows = λ e x. inl x;
  handed = over_rest takes has_failed lets shuts heard start rows lane;
}

pub carries_then : {R : Type 0} (accepted : R → List EventValue) (takes : R → List EventValue → R → Type 0) (has_failed : R → R → Type 0) (lets shuts heard : ℕ → ℕ → Type 0) (start : ℕ) (rows : List EventValue) (a b c : Lane R) → Carries accepted takes has_failed lets shuts heard start rows a b → Carries accepted takes has_failed lets shuts heard start rows b c → Carries accepted takes has_failed lets shuts heard start rows a c
carries_then accepted takes has_failed lets shuts heard start rows a b c h k = record {
  moves = moves_then accepted takes has_failed lets shuts heard a b c h.moves k.moves;
  within = elim k.within [ inl same ↦ elim h.within [ inl still ↦ inl (same ∙ still) | inr low ↦ inr (omega (arith, same, low)) ] | inr low ↦ inr low ];
  sent = sent_then start rows a.relay.mark b.relay.mark c.relay.mark (accepted b.route) (accepted c.route) h.sent k.moves.kept k.sent;
  new_rows = of_then (accepted a.route) (accepted b.route) (accepted c.route) rows h.new_rows k.new_rows;
  handed = over_between takes has_failed lets shuts heard start rows a b c h.moves.place k.moves.idle h.moves.forward k.moves.forward h.handed k.handed;
}

-- what a lane that stopped did to its route, and what of that the gate let through
abbrev pub Stops : {R : Type 0} → (R → R → Type 0) → (ℕ → ℕ → Type 0) → (ℕ → ℕ → Type 0) → (ℕ → ℕ → Type 0) → ℕ → ℕ → R → R → RelayFault → Type 0
Stops has_failed lets shuts heard worker calls old new f = HasCauseOfFault has_failed old new f × (LetsThrough lets heard worker calls (calls_until (Failed f) 0) × (f ≡ GateShut → shuts worker (calls + 1)))

pub stops_at : {R : Type 0} (has_failed : R → R → Type 0) (lets shuts heard : ℕ → ℕ → Type 0) (worker calls call : ℕ) (old new : R) (f : RelayFault) → call ≡ calls + 1 → FailsAt has_failed lets shuts heard worker call old new f → Stops has_failed lets shuts heard worker calls old new f
stops_at has_failed lets shuts heard worker calls call old new OutOfMemory is h = absurd h
stops_at has_failed lets shuts heard worker calls call old new RouteFailed is h = (h.0, (through_one lets heard worker calls (subst (λ z. lets worker z) is h.1.0) (subst (λ z. heard worker z) is h.1.1), λ s. absurd (cc)))
stops_at has_failed lets shuts heard worker calls call old new Stranger is h = absurd h
stops_at has_failed lets shuts heard worker calls call old new Store is h = absurd h
stops_at has_failed lets shuts heard worker calls call old new NoThread is h = absurd h
stops_at has_failed lets shuts heard worker calls call old new GateShut is h = (h.0, (through_none lets heard worker calls, λ s. subst (λ z. shuts worker z) is h.1))

stops_quiet : {R : Type 0} (has_failed : R → R → Type 0) (lets shuts heard : ℕ → ℕ → Type 0) (worker calls : ℕ) (old new : R) (f : RelayFault) → new ≡ old → IsQuiet f → Stops has_failed lets shuts heard worker calls old new f
stops_quiet has_failed lets shuts heard worker calls old new OutOfMemory same h = (same, (through_none lets heard worker calls, λ s. absurd (cc)))
stops_quiet has_failed lets shuts heard worker calls old new RouteFailed same h = elim h [ inl is ↦ absurd (cc) | inr or ↦ elim or [ inl is ↦ absurd (cc) | inr is ↦ absurd (cc) ] ]
stops_quiet has_failed lets shuts heard worker calls old new Stranger same h = elim h [ inl is ↦ absurd (cc) | inr or ↦ elim or [ inl is ↦ absurd (cc) | inr is ↦ absurd (cc) ] ]
stops_quiet has_failed lets shuts heard worker calls old new Store same h = (same, (through_none lets heard worker calls, λ s. absurd (cc)))
stops_quiet has_failed lets shuts heard worker calls old new NoThread same h = (same, (through_none lets heard worker calls, λ s. absurd (cc)))
stops_quiet has_failed lets shuts heard worker calls old new GateShut same h = elim h [ inl is ↦ absurd (cc) | inr or ↦ elim or [ inl is ↦ absurd (cc) | inr is ↦ absurd (cc) ] ]

-- a lane that stopped before or at a send: its mark is as it was
pub carries_stop : {R : Type 0} (accepted : R → List EventValue) (takes : R → List EventValue → R → Type 0) (has_failed : R → R → Type 0) (lets shuts heard : ℕ → ℕ → Type 0) (start : ℕ) (rows : List EventValue) (old new : Lane R) (f : RelayFault) → old.fault ≡ None → new.place ≡ old.place → new.relay ≡ old.relay → new.fault ≡ Some f → Stops has_failed lets shuts heard old.place old.calls old.route new.route f
    → AreIn (accepted old.route) (accepted new.route) → AreFromEither (accepted new.route) (accepted old.route) rows → Carries accepted takes has_failed lets shuts heard start rows old new
carries_stop {R} accepted takes has_failed lets shuts heard start rows old new f going place same stop cause kept of = record {
  moves = record {
    place = place;
    site = ap (λ m. m.site) same;
    forward = omega (arith, ap (λ m. m.mark) same);
    kept = kept;
    handed = λ goes. ([], (hands, tt));
    idle = λ some. absurd (none_some old.fault going some);
  };
  within = inl (ap (λ m. m.mark) same);
  sent = subst (λ m. AreSent start rows old.relay.mark m (accepted new.route)) (sym (ap (λ m. m.mark) same)) (sent_none start rows old.relay.mark (accepted new.route));
  new_rows = of;
  handed = λ goes. ([], (hands, sym (ap (λ m. rows_between start rows old.relay.mark m.mark) same ∙ between_none start rows old.relay.mark)));
}
  where
    some_none : (o : Option RelayFault) → o ≡ Some f → o ≡ None → ⊥
    some_none (Some x) is h = absurd (cc)
    some_none None is h = absurd (cc)

    one_fault : (o : Option RelayFault) (g : RelayFault) → o ≡ Some f → o ≡ Some g → f ≡ g
    one_fault (Some x) g is h = cc
    one_fault None g is h = absurd (cc)

    hands : Hands takes has_failed lets shuts heard old new []
    hands = hands_none takes has_failed lets shuts heard old new (subst (λ (o : Option RelayFault). MatchOption o (new.route ≡ old.route) (HasCauseOfFault has_failed old.route new.route)) (sym stop) cause.0)
        (λ none. let no : ⊥ = some_none new.fault stop none in absurd no) (subst (λ (o : Option RelayFault). LetsThrough lets heard old.place old.calls (calls_to o 0)) (sym stop) cause.1.0) (λ shut. cause.1.1 (one_fault new.fault GateShut stop shut))

    none_some : (o : Option RelayFault) → o ≡ None → IsSome o → ⊥
    none_some (Some x) is h = absurd (cc)
    none_some None is h = let k : ◌≡◌ {A = Bool} false true = h in absurd (cc)

-- a lane that came to no call
pub carries_quiet : {R : Type 0} (accepted : R → List EventValue) (takes : R → List EventValue → R → Type 0) (has_failed : R → R → Type 0) (lets shuts heard : ℕ → ℕ → Type 0) (start : ℕ) (rows : List EventValue) (old new : Lane R) (f : RelayFault) → old.fault ≡ None → IsQuiet f → new.place ≡ old.place → new.relay ≡ old.relay → new.route ≡ old.route → new.fault ≡ Some f
    → Carries accepted takes has_failed lets shuts heard start rows old new
carries_quiet accepted takes has_failed lets shuts heard start rows old new f going quiet place same route stop =
    carries_stop accepted takes has_failed lets shuts heard start rows old new f going place same stop (stops_quiet has_failed lets shuts heard old.place old.calls old.route new.route f route quiet)
    (λ e h. subst (λ r. Has (accepted r) e) (sym route) h) (λ e h. inl (subst (λ r. Has (accepted r) e) route h))

-- a lane whose route accepted the next page
pub carries_page : {R : Type 0} (accepted : R → List EventValue) (takes : R → List EventValue → R → Type 0) (has_failed : R → R → Type 0) (lets shuts heard : ℕ → ℕ → Type 0) (start : ℕ) (rows page : List EventValue) (old new : Lane R) → old.fault ≡ None → new.fault ≡ None → new.place ≡ old.place → new.calls ≡ old.calls + 1 → lets old.place (old.calls + 1) → heard old.place (old.calls + 1)
    → new.relay.site ≡ old.relay.site → old.relay.mark ≤ new.relay.mark → new.relay.mark ≤ start + length rows → AreSent start rows old.relay.mark new.relay.mark page → AreIn page rows → page ≡ rows_between start rows old.relay.mark new.relay.mark → IsPage page → takes old.route page new.route
    → AreIn page (accepted new.route) → AreIn (accepted old.route) (accepted new.route) → AreFromEither (accepted new.route) (accepted old.route) page → Carries accepted takes has_failed lets shuts heard start rows old new
carries_page {R} accepted takes has_failed lets shuts heard start rows page old new going goes place one let_in told same low high there rows-in exact sized took sent kept of = record {
  moves = record {
    place = place;
    site = same;
    forward = low;
    kept = kept;
    handed = λ was. (page ∷ [], (hands, tt));
    idle = λ some. absurd (none_some old.fault going some);
  };
  within = inr high;
  sent = sent_in start rows old.relay.mark new.relay.mark page (accepted new.route) there sent;
  new_rows = of_in (accepted old.route) (accepted new.route) page rows of rows-in;
  handed = λ was. (page ∷ [], (hands, Rattle.std.proofs.Common.append-nil page ∙ exact));
}
  where
    hands : Hands takes has_failed lets shuts heard old new (page ∷ [])
    hands = hands_one takes has_failed lets shuts heard old new page sized took goes one let_in told

    none_some : (o : Option RelayFault) → o ≡ None → IsSome o → ⊥
    none_some (Some x) is h = absurd (cc)
    none_some None is h = let k : ◌≡◌ {A = Bool} false true = h in absurd (cc)

-- what was copied so far, of a page that begins there
pub between_more : (rows page : List EventValue) (from to : ℕ) (e : EventValue) → from ≤ to → slice_get rows to ≡ Some e → page ≡ rows_between 0 rows from to → page ++ e ∷ [] ≡ rows_between 0 rows from (to + 1)
between_more rows page from to e low at h = ap (λ l. l ++ e ∷ []) h ∙ ap (λ l. rows_between 0 rows from to ++ l) (sym last) ∙ slices (from - 0) (to - 0) (to + 1 - 0) rows (omega (arith, low)) (omega arith)
  where
    one : (n : ℕ) (l : List EventValue) → slice_get l n ≡ Some e → drop n (take (n + 1) l) ≡ e ∷ []
    one n [] is = absurd (cc)
    one zero (x ∷ l) is = let k : x ≡ e = cc in ap (λ y. y ∷ []) k
    one (suc n) (x ∷ l) is = ap (λ k. drop (suc n) (take k (x ∷ l))) (let k : suc n + 1 ≡ suc (n + 1) = omega arith in k) ∙ one n l is

    last : drop (to - 0) (take (to + 1 - 0) rows) ≡ e ∷ []
    last = ap (λ n. drop n (take (to + 1 - 0) rows)) (let k : to - 0 ≡ to = omega arith in k) ∙ ap (λ n. drop to (take n rows)) (let k : to + 1 - 0 ≡ to + 1 = omega arith in k) ∙ one to rows at

pub between_length : (start : ℕ) (rows : List EventValue) (from to : ℕ) → to - start ≤ length rows → length (rows_between start rows from to) ≡ to - start - (from - start)
between_length start rows from to high = go (from - start) (to - start) rows high
  where
    go : (n m : ℕ) (l : List EventValue) → m ≤ length l → length (drop n (take m l)) ≡ m - n
    go n zero l low = ap length (drop_nil n) ∙ (let k : 0 ≡ 0 - n = omega arith in k)
    go n (suc m) [] low = absurd (omega (arith, low))
    go zero (suc m) (x ∷ l) low = ap suc (go zero m l (omega (arith, low)) ∙ (let k : m - 0 ≡ m = omega arith in k)) ∙ (let k : suc m ≡ suc m - 0 = omega arith in k)
    go (suc n) (suc m) (x ∷ l) low = go n m l (omega (arith, low)) ∙ (let k : m - n ≡ suc m - suc n = omega arith in k)

pub each_length : {A : Type 0} → {B : Type 0} (Holds : A → B → Type 0) (xs : List A) (ys : List B) → AllAtPlaces Holds xs ys → length ys ≡ length xs
each_length Holds [] [] h = refl
each_length Holds [] (y ∷ ys) h = absurd h
each_length Holds (x ∷ xs) [] h = absurd h
each_length Holds (x ∷ xs) (y ∷ ys) h = ap suc (each_length Holds xs ys h.1)
