-- What a walk from the front to the first fault says of all values.
use Rattle.std.proofs.Common.{◌≡◌, ℕ, suc, ◌+◌, List, [], ◌∷◌, ◌++◌, map, take, length, Option, Some, None, option_and_then, slice_get, String, Vec, BTreeMap, Global, refl, sym, ap, ◌∙◌, subst, arith, append_assoc, length-append}
use Rattle.serde_json.specs.Data.{Data, object}
use Rattle.serde_json.specs.View.{view, items_view, members_view}
use Rattle.serde_json.specs.declared.value.Value.{Value, Array, Object}
use Rattle.serde_json.proofs.Views.{view-Array, view-Object}
use Rattle.attributes.specs.Event.{EventValue}
use Rattle.attributes.specs.declared.fault.Fault.{Fault}
use Rattle.event_json.specs.Spelling.{fault_in, event_in, list_of, candidates}
use Rattle.event_json.specs.Reading.{AreFaultless, Spells, IsNoSpelling}
use Rattle.event_json.specs.steps.Walk.{bad, bad_or, first_bad}
use Rattle.event_json.specs.declared.fault.ReadFault.{ReadFault}

-- the walk found nothing
faultless_next : (n : ℕ) (o : Option Fault) (d : Data) (ds : List Data) → fault_in d ≡ o → (first_bad (suc n) ds ≡ None → AreFaultless ds) → bad_or n o (first_bad (suc n) ds) ≡ None → AreFaultless (d ∷ ds)
faultless_next n None d ds is rest h = (is, rest h)
faultless_next n (Some g) d ds is rest h = absurd (cc)

pub faultless_all : (n : ℕ) (ds : List Data) → first_bad n ds ≡ None → AreFaultless ds
faultless_all n [] h = tt
faultless_all n (d ∷ ds) h = faultless_next n (fault_in d) d ds refl (λ e. faultless_all (suc n) ds e) h

-- the walk from n on ended at this refusal
record EndsAt (n : ℕ) (ds : List Data) (f : ReadFault) : Type 0 where
  i : ℕ
  g : Fault
  is : f ≡ bad (n + i) g
  before : AreFaultless (take i ds)
  at : option_and_then fault_in (slice_get ds i) ≡ Some g

same_bad : (n : ℕ) (f : ReadFault) (g : Fault) (r : Option ReadFault) → Some (bad n g) ≡ Some f → f ≡ bad n g
same_bad n f g r h = cc

ends_next : (n : ℕ) (o : Option Fault) (d : Data) (ds : List Data) (f : ReadFault) → fault_in d ≡ o → (first_bad (suc n) ds ≡ Some f → EndsAt (suc n) ds f) → bad_or n o (first_bad (suc n) ds) ≡ Some f → EndsAt n (d ∷ ds) f
ends_next n None d ds f is rest h =
    let r = rest h in
    let shifted : suc n + r.i ≡ n + suc r.i = omega arith in
    record { i = suc r.i; g = r.g; is = r.is ∙ ap (λ k. bad k r.g) shifted; before = (is, r.before); at = r.at }
ends_next n (Some g) d ds f is rest h =
    let here : n ≡ n + 0 = omega arith in
    record { i = 0; g = g; is = same_bad n f g None h ∙ ap (λ k. bad k g) here; before = tt; at = is }

ends_at : (n : ℕ) (ds : List Data) (f : ReadFault) → first_bad n ds ≡ Some f → EndsAt n ds f
ends_at n [] f h = absurd (cc)
ends_at n (d ∷ ds) f h = ends_next n (fault_in d) d ds f refl (λ e. ends_at (suc n) ds f e) h

-- what the walk ends at is the refusal of a value
pub is_bad : (n : ℕ) (ds : List Data) (f : ReadFault) → first_bad n ds ≡ Some f → (i : ℕ) × (g : Fault) × (f ≡ bad i g)
is_bad n ds f h = let r = ends_at n ds f h in (n + r.i, r.g, r.is)

-- ---- of a value's candidates

pub spells : (value : Data) (ds : List Data) (es : List EventValue) → candidates value ≡ Some ds → first_bad 0 ds ≡ None → es ≡ map event_in ds → Spells value es
spells value ds es found h is = record { found = ds; are_found = found; faultless = faultless_all 0 ds h; are_events = is }

pub no_spelling : (value : Data) (ds : List Data) (f : ReadFault) → candidates value ≡ Some ds → first_bad 0 ds ≡ Some f → IsNoSpelling value f
no_spelling value ds f found h =
    let r = ends_at 0 ds f h in
    let place : 0 + r.i ≡ r.i = omega arith in
    let is : f ≡ bad r.i r.g = r.is ∙ ap (λ k. bad k r.g) place in
    subst (IsNoSpelling value) (sym is) (record { found = ds; are_found = found; before = r.before; at = r.at })

pub list_of-items_view : (vs : List Value) → list_of (items_view vs) ≡ map view vs
list_of-items_view [] = refl
list_of-items_view (v ∷ vs) = ap (λ r. view v ∷ r) (list_of-items_view vs)

pub candidates-Object : (m : BTreeMap (String Global) Value) → candidates (view (Object m)) ≡ Some (object (members_view m.entries) ∷ [])
candidates-Object m = rw (view-Object m)

pub candidates-Array : (v : Vec Value Global) → candidates (view (Array v)) ≡ Some (map view v.items)
candidates-Array v = rw (view-Array v) (ap Some (list_of-items_view v.items))

-- ---- a step of the walk

-- the event e of the value v joins those that are done
pub batch_step : (es new : List EventValue) (e : EventValue) (v : Value) (vs rest : List Value) (all : List EventValue) (first : Option ReadFault) → vs ≡ v ∷ rest → new ≡ es ++ e ∷ [] → fault_in (view v) ≡ None → e ≡ event_in (view v)
    → es ++ map event_in (map view vs) ≡ all → first_bad (length es) (map view vs) ≡ first
    → (new ++ map event_in (map view rest) ≡ all) × (first_bad (length new) (map view rest) ≡ first)
batch_step es new e v vs rest all first is_vs is_new none is_e joins finds =
    let after = map event_in (map view rest) in
    let longer : length new ≡ suc (length es) = ap length is_new ∙ omega (arith, length-append es (e ∷ [])) in (
      ap (λ n. n ++ after) is_new
          ∙ append_assoc es (e ∷ []) after
          ∙ ap (λ x. es ++ x ∷ after) is_e
          ∙ ap (λ w. es ++ map event_in (map view w)) (sym is_vs)
          ∙ joins,
      ap (λ n. first_bad n (map view rest)) longer
          ∙ ap (λ o. bad_or (length es) o (first_bad (suc (length es)) (map view rest))) (sym none)
          ∙ ap (λ w. first_bad (length es) (map view w)) (sym is_vs)
          ∙ finds,
    )
