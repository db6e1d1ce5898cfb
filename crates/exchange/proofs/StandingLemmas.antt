-- Running sites stand for places, step by step.
use Rattle.std.proofs.Common.{◌≡◌, ◌≢◌, ℕ, zero, suc, ◌+◌, ◌<◌, ◌≤◌, List, [], ◌∷◌, ◌++◌, true, false, ◌||◌, length, get_or, set, take, Some, slice_get, if◌then◌else◌, refl, sym, ap, ◌∙◌, subst, arith, length-append}
use Rattle.std.specs.Prelude.{Result, Ok, Err, IfErr, OnErr}
use Rattle.std.specs.declared.cmp.Ordering.{Ordering}
use Rattle.std.specs.declared.cmp.Ordering.TheVariants.{Less, Equal, Greater}
use Rattle.std.specs.Ordering.{is_eq, match_ordering}
use Rattle.std.specs.List.{AllByRecursion, AllZip}
use Rattle.std.specs.BTreeSet.{insert_key}
use Rattle.std.proofs.lemmas.List.{get_or_default, get_or-set_other, get_or-set_same, set-set, take_all, take-append-le, take_more}
use Rattle.std.proofs.lemmas.Option.{get_or_from_slice_get, slice_get-get_or, slice_get_within}
use mathlib.Core.Bool.{true≢false}
use Rattle.attributes.specs.Event.{EventValue}
use Rattle.inbox.specs.KeyOrder.{key_cmp}
use Rattle.inbox.specs.Laws.{SetLaws}
use Rattle.inbox.specs.Ordered.{append_new, has}
use Rattle.inbox.specs.Sets.{set_of, union}
use Rattle.exchange.specs.declared.world.Hosted.{Hosted}
use Rattle.exchange.specs.declared.step.Step.{Step}
use Rattle.exchange.specs.Place.{Place, gains, nothing, place_at}
use Rattle.site.specs.Arrival.{LacksArrivalAt}
use Rattle.exchange.specs.Schedule.{FitsIn, IsShortOfNext, places_after, after_part, world_after}
use Rattle.exchange.specs.Standing.{StandAtPlaces, IsHostOf}
use Rattle.exchange.specs.steps.Given.{Gives, GivesTo, after_made, site_at}
use Rattle.exchange.proofs.TransferLemmas.{add_all-append, length-append_new}

module _ {A B : Type 0} (R : A → B → Type 0) where
  pub all_zip_set : (xs : List A) (ys : List B) (i : ℕ) (x : A) (y : B) → AllZip R xs ys → R x y → AllZip R (set xs i x) (set ys i y)
  all_zip_set [] [] i x y h r = h
  all_zip_set [] (b ∷ bs) i x y h r = absurd h
  all_zip_set (a ∷ as') [] i x y h r = absurd h
  all_zip_set (a ∷ as') (b ∷ bs) zero x y h r = (r, h.1)
  all_zip_set (a ∷ as') (b ∷ bs) (suc i) x y h r = (h.0, all_zip_set as' bs i x y h.1 r)

  -- a place that is written anew
  pub all_zip_set_right : (xs : List A) (ys : List B) (i : ℕ) (d : A) (y : B) → AllZip R xs ys → (i < length xs → R (get_or xs i d) y) → AllZip R xs (set ys i y)
  all_zip_set_right [] [] i d y h r = h
  all_zip_set_right [] (b ∷ bs) i d y h r = absurd h
  all_zip_set_right (a ∷ as') [] i d y h r = absurd h
  all_zip_set_right (a ∷ as') (b ∷ bs) zero d y h r = (r (omega arith), h.1)
  all_zip_set_right (a ∷ as') (b ∷ bs) (suc i) d y h r = (h.0, all_zip_set_right as' bs i d y h.1 (λ l. r (omega arith)))

  pub all_zip_at : (xs : List A) (ys : List B) (i : ℕ) (d : A) (e : B) → AllZip R xs ys → i < length xs → R (get_or xs i d) (get_or ys i e)
  all_zip_at [] ys i d e h l = absurd (omega arith)
  all_zip_at (a ∷ as') [] i d e h l = absurd h
  all_zip_at (a ∷ as') (b ∷ bs) zero d e h l = h.0
  all_zip_at (a ∷ as') (b ∷ bs) (suc i) d e h l = all_zip_at as' bs i d e h.1 (omega arith)

  pub all_zip_push : (xs : List A) (ys : List B) (x : A) (y : B) → AllZip R xs ys → R x y → AllZip R (xs ++ x ∷ []) (ys ++ y ∷ [])
  all_zip_push [] [] x y h r = (r, tt)
  all_zip_push [] (b ∷ bs) x y h r = absurd h
  all_zip_push (a ∷ as') [] x y h r = absurd h
  all_zip_push (a ∷ as') (b ∷ bs) x y h r = (h.0, all_zip_push as' bs x y h.1 r)

length-insert_key : {K : Type 0} (R : K → K → Ordering) (E : List K) (x : K) → has R E x ≡ false → length (insert_key R E x) ≡ suc (length E)
length-insert_key R [] x h = refl
length-insert_key R (y ∷ ys) x h =
    elim (R x y) as (λ r. (is_eq r || has R ys x) ≡ false → length (match_ordering r (x ∷ y ∷ ys) (y ∷ ys) (y ∷ insert_key R ys x)) ≡ suc (suc (length ys))) [
      | Less ↦ λ t. refl
      | Equal ↦ λ t. absurd (true≢false t)
      | Greater ↦ λ t. ap suc (length-insert_key R ys x t)
    ] h

-- the front stays
take-append_new : {K : Type 0} (R : K → K → Ordering) (n : ℕ) (A xs : List K) → n ≤ length A → take n (append_new R A xs) ≡ take n A
take-append_new R n A [] l = refl
take-append_new R n A (x ∷ xs) l =
    elim (has R A x) as (λ b. take n (append_new R (if b then A else A ++ x ∷ []) xs) ≡ take n A) [
      | true ↦ take-append_new R n A xs l
      | false ↦ take-append_new R n (A ++ x ∷ []) xs (omega (arith, l, length-append A (x ∷ []))) ∙ take-append-le n A (x ∷ []) l
    ]

-- what arrives anew stands there once
pub once-append_new : SetLaws → (A xs : List EventValue) → length (set_of A) ≡ length A → length (set_of (append_new key_cmp A xs)) ≡ length (append_new key_cmp A xs)
once-append_new sets A [] h = h
once-append_new sets A (x ∷ xs) h =
    elim (has key_cmp A x) as (λ b. has key_cmp A x ≡ b → length (set_of (append_new key_cmp (if b then A else A ++ x ∷ []) xs)) ≡ length (append_new key_cmp (if b then A else A ++ x ∷ []) xs)) [
      | true ↦ λ e. once-append_new sets A xs h
      | false ↦ λ e.
          let longer : length (set_of (A ++ x ∷ [])) ≡ suc (length (set_of A)) = ap length (add_all-append key_cmp [] A (x ∷ [])) ∙ length-insert_key key_cmp (set_of A) x (sets.members A x ∙ e) in
          once-append_new sets (A ++ x ∷ []) xs (omega (arith, longer, h, length-append A (x ∷ [])))
    ] refl

-- a running site stands for the place of its number
pub stands_there : (hosts : List Hosted) (w : List Place) (i : ℕ) (h : Hosted) → StandAtPlaces hosts w → slice_get hosts i ≡ Some h → IsHostOf h (place_at w i)
stands_there hosts w i h s e = subst (λ x. IsHostOf x (place_at w i)) (get_or_from_slice_get hosts i h h e) (all_zip_at IsHostOf hosts w i h nothing s (slice_get_within hosts i h e))

pub stands_at : (hosts : List Hosted) (w : List Place) (i : ℕ) (h : Hosted) → StandAtPlaces hosts w → i < length hosts → h ≡ get_or hosts i h → IsHostOf h (place_at w i)
stands_at hosts w i h s l e = subst (λ x. IsHostOf x (place_at w i)) (sym e) (all_zip_at IsHostOf hosts w i h nothing s l)

pub site_taken : (hosts : List Hosted) (w : List Place) (i : ℕ) → StandAtPlaces hosts w → i < length hosts → set_of (site_at hosts i) ≡ (place_at w i).taken
site_taken hosts w i s l = let one = all_zip_at IsHostOf hosts w i (record { site = []; kept = 0 }) nothing s l in one.taken

-- a site that takes events
pub gives_stands : SetLaws → (old new : List Hosted) (w : List Place) (i : ℕ) (L : List EventValue) → GivesTo old new i L → StandAtPlaces old w → StandAtPlaces new (gains w i L)
gives_stands sets old new w i L g s =
    let one = stands_there old w i g.host s g.there in
    let host : Hosted = record { site = g.site; kept = g.host.kept } in
    subst (λ n. StandAtPlaces n (gains w i L)) (sym g.changed) (all_zip_set IsHostOf old w i host (record (place_at w i) { taken = union (place_at w i).taken L }) s (record {
      taken = g.set ∙ ap (λ E. union E L) one.taken;
      kept = ap (λ l. set_of (take g.host.kept l)) g.arrivals ∙ ap set_of (take-append_new key_cmp g.host.kept g.host.site L one.within) ∙ one.kept;
      mark = one.mark;
      within = let more = length-append_new key_cmp g.host.site L in omega (arith, ap length g.arrivals, one.within, more.0);
      once = subst (λ l. length (set_of l) ≡ length l) (sym g.arrivals) (once-append_new sets g.host.site L one.once);
    }))

-- a step by which a site takes events, or a part of them
pub makes : SetLaws → (old new : List Hosted) (w : List Place) (step : Step) (i : ℕ) (L : List EventValue) → places_after step w ≡ gains w i L → ((n : ℕ) → after_part n step w ≡ gains w i (take n L))
    → (r : Result (Unit {0}) ℕ) → Gives old new i L r → StandAtPlaces old w → StandAtPlaces new (after_made r step w)
makes sets old new w step i L whole part (Ok _) g s = subst (StandAtPlaces new) (sym whole) (gives_stands sets old new w i L g s)
makes sets old new w step i L whole part (Err n) g s = subst (StandAtPlaces new) (sym (part n)) (gives_stands sets old new w i (take n L) g s)

-- a site that is taken out and put back with events
given_twice : (hosts : List Hosted) (to : ℕ) (h again : Hosted) (empty site L : List EventValue) → to < length hosts → h ≡ get_or hosts to h → again ≡ get_or (set hosts to (record { site = empty; kept = h.kept })) to again
    → site ≡ append_new key_cmp h.site L → set_of site ≡ union (set_of h.site) L → GivesTo hosts (set (set hosts to (record { site = empty; kept = h.kept })) to (record { site = site; kept = again.kept })) to L
given_twice hosts to h again empty site L l e f arrivals is =
    let out : Hosted = record { site = empty; kept = h.kept } in
    let same : again.kept ≡ h.kept = ap (λ x. x.kept) (f ∙ get_or-set_same hosts to out again l) in
    record {
      host = h;
      there = slice_get-get_or hosts to h l ∙ ap Some (sym e);
      site = site;
      changed = set-set hosts to out (record { site = site; kept = again.kept }) ∙ ap (λ k. set hosts to (record { site = site; kept = k })) same;
      arrivals = arrivals;
      set = is;
    }

pub own_site : (hosts : List Hosted) (i : ℕ) (h : Hosted) → i < length hosts → h ≡ get_or hosts i h → h.site ≡ site_at hosts i
own_site hosts i h l e = ap (λ x. x.site) (e ∙ get_or_default hosts i h (record { site = []; kept = 0 }) l)

-- another site than the one that is taken out
other_site : (hosts : List Hosted) (from to : ℕ) (h out : Hosted) → from < length hosts → from ≢ to → h ≡ get_or (set hosts to out) from h → h.site ≡ site_at hosts from
other_site hosts from to h out l other e = own_site hosts from h l (e ∙ get_or-set_other hosts to from out h other)

-- a site that is taken out and another, and what the first comes to by a rule over both
pub record Between (hosts : List Hosted) (from to : ℕ) (h giver : Hosted) (empty taken : List EventValue) : Type 0 where
  pub other : giver.site ≡ site_at hosts from
  pub named : taken ≡ site_at hosts to
  pub given : (again : Hosted) (site : List EventValue) (rule : List EventValue → List EventValue → List EventValue) → again ≡ get_or (set hosts to (record { site = empty; kept = h.kept })) to again
      → site ≡ append_new key_cmp taken (rule giver.site taken) → set_of site ≡ union (set_of taken) (rule giver.site taken)
      → GivesTo hosts (set (set hosts to (record { site = empty; kept = h.kept })) to (record { site = site; kept = again.kept })) to (rule (site_at hosts from) (site_at hosts to))

pub between : (hosts : List Hosted) (from to n : ℕ) (h giver : Hosted) (empty taken : List EventValue) → n ≡ length hosts → from < n → to < n → from ≢ to
    → h ≡ get_or hosts to h → giver ≡ get_or (set hosts to (record { site = empty; kept = h.kept })) from giver → taken ≡ h.site → Between hosts from to h giver empty taken
between hosts from to n h giver empty taken long from_in to_in others is is_giver own =
    let within : to < length hosts = subst (λ k. to < k) long to_in in
    let named = own ∙ own_site hosts to h within is in
    let other = other_site hosts from to giver (record { site = empty; kept = h.kept }) (subst (λ k. from < k) long from_in) others is_giver in
    record {
      other = other;
      named = named;
      given = λ again site rule is_again arrivals united. given_twice hosts to h again empty site (rule (site_at hosts from) (site_at hosts to)) within is is_again
          (arrivals ∙ (λ k. append_new key_cmp (own k) (rule (other k) (named k)))) (united ∙ (λ k. union (set_of (own k)) (rule (other k) (named k))));
    }

-- a flush
pub flush_at : (hosts : List Hosted) (w : List Place) (i : ℕ) (h : Hosted) (n : ℕ) → i < length hosts → h ≡ get_or hosts i h → n ≡ length h.site → StandAtPlaces hosts w
    → StandAtPlaces (set hosts i (record { site = h.site; kept = n })) (set w i (record (place_at w i) { kept = (place_at w i).taken }))
flush_at hosts w i h n l e is s =
    let one = stands_at hosts w i h s l e in
    all_zip_set IsHostOf hosts w i (record { site = h.site; kept = n }) (record (place_at w i) { kept = (place_at w i).taken }) s (record {
      taken = one.taken;
      kept = ap set_of (take_all n h.site (omega (arith, is))) ∙ one.taken;
      mark = is ∙ sym one.once ∙ ap length one.taken;
      within = omega (arith, is);
      once = one.once;
    })

-- a restart
pub restart_at : SetLaws → (hosts : List Hosted) (w : List Place) (i : ℕ) (h : Hosted) (again : List EventValue) → i < length hosts → h ≡ get_or hosts i h
    → again ≡ append_new key_cmp [] (take h.kept h.site) → set_of again ≡ set_of (take h.kept h.site) → StandAtPlaces hosts w
    → StandAtPlaces (set hosts i (record { site = again; kept = h.kept })) (set w i (record (place_at w i) { taken = (place_at w i).kept }))
restart_at sets hosts w i h again l e is same s =
    let one = stands_at hosts w i h s l e in
    let once : length (set_of again) ≡ length again = subst (λ x. length (set_of x) ≡ length x) (sym is) (once-append_new sets [] (take h.kept h.site) refl) in
    let set_is : set_of again ≡ (place_at w i).kept = same ∙ one.kept in
    let long : length again ≡ h.kept = sym once ∙ ap length set_is ∙ sym one.mark in
    all_zip_set IsHostOf hosts w i (record { site = again; kept = h.kept }) (record (place_at w i) { taken = (place_at w i).kept }) s (record {
      taken = set_is;
      kept = ap set_of (take_all h.kept again (omega (arith, long))) ∙ set_is;
      mark = one.mark;
      within = omega (arith, long);
      once = once;
    })

-- a site that takes what changes nothing
pub same_stands : (hosts : List Hosted) (w : List Place) (i : ℕ) (L : List EventValue) → (i < length hosts → union (place_at w i).taken L ≡ (place_at w i).taken) → StandAtPlaces hosts w → StandAtPlaces hosts (gains w i L)
same_stands hosts w i L same s =
    all_zip_set_right IsHostOf hosts w i (record { site = []; kept = 0 }) (record (place_at w i) { taken = union (place_at w i).taken L }) s
    (λ l. subst (λ E. IsHostOf (get_or hosts i (record { site = []; kept = 0 })) (record (place_at w i) { taken = E })) (sym (same l)) (all_zip_at IsHostOf hosts w i (record { site = []; kept = 0 }) nothing s l))

world_after-append : (xs ys : List Step) (w : List Place) → world_after (xs ++ ys) w ≡ world_after ys (world_after xs w)
world_after-append [] ys w = refl
world_after-append (x ∷ xs) ys w = world_after-append xs ys (places_after x w)

-- the world after one step more
pub world_after-next : (steps : List Step) (i : ℕ) (x : Step) (w : List Place) → slice_get steps i ≡ Some x → world_after (take (i + 1) steps) w ≡ places_after x (world_after (take i steps) w)
world_after-next steps i x w h =
    ap (λ l. world_after l w) (take_more steps i x (slice_get_within steps i x h) ∙ ap (λ z. take i steps ++ z ∷ []) (get_or_from_slice_get steps i x x h)) ∙ world_after-append (take i steps) (x ∷ []) w

-- each step of a list that fits does
pub fits_at : (n : ℕ) (steps : List Step) (i : ℕ) (step : Step) → AllByRecursion (FitsIn n) steps → slice_get steps i ≡ Some step → FitsIn n step
fits_at n [] i step a h = absurd (cc)
fits_at n (x ∷ xs) zero step a h = let same : x ≡ step = cc in subst (FitsIn n) same a.0
fits_at n (x ∷ xs) (suc i) step a h = fits_at n xs i step a.1 h

pub starts_stand : IsHostOf (record { site = []; kept = 0 }) nothing
starts_stand = record { taken = refl; kept = refl; mark = refl; within = omega arith; once = refl }

pub stands_length : (hosts : List Hosted) (w : List Place) → StandAtPlaces hosts w → length hosts ≡ length w
stands_length [] [] s = refl
stands_length [] (p ∷ ps) s = absurd s
stands_length (h ∷ hs) [] s = absurd s
stands_length (h ∷ hs) (p ∷ ps) s = ap suc (stands_length hs ps s.1)

-- memory was wanted for an event that a site hasn't, after it took the first ones
pub short_of_next : SetLaws → (new E L : List EventValue) (n : ℕ) → n < length L → set_of new ≡ union E (take n L) → LacksArrivalAt new L n → IsShortOfNext E n L
short_of_next sets new E L n less is lacks = (less, λ e h. ap (λ F. has key_cmp F e) (sym is) ∙ sets.members new e ∙ lacks e h)

-- what holds of an error by two clauses
pub stops_both : {T E : Type 0} (r : Result T E) (P : Type 0) (Q R : E → Type 0) → ((y : E) → P → Q y → R y) → OnErr r P → IfErr r Q → IfErr r R
stops_both (Ok x) P Q R f p q = tt
stops_both (Err y) P Q R f p q = f y p q
