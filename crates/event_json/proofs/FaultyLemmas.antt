-- A step of the walk that tells the members at fault; no fault of theirs is want of memory.
use Rattle.std.proofs.Common.{◌≡◌, ◌≢◌, ℕ, suc, ◌+◌, List, [], ◌∷◌, ◌++◌, map, Option, Some, None, String, BTreeMap, Global, ◌<◌, ◌≤◌, length, IsSome, option_to_list, refl, sym, ap, ◌∙◌, subst, append_assoc, append-nil, length-append, add-one, codes, arith}
use Rattle.std.specs.Option.{option_flatten}
use Rattle.std.proofs.lemmas.List.{map-append}
use Rattle.std.specs.List.{AllByRecursion}
use Rattle.serde_json.specs.Data.{Data, array}
use Rattle.serde_json.specs.View.{view}
use Rattle.serde_json.specs.declared.value.Value.{Value, Object}
use Rattle.serde_json.proofs.Views.{view-Object}
use Rattle.attributes.specs.Event.{EventValue, attribute_of}
use Rattle.attributes.specs.Sequence.{fault_at, number_of}
use Rattle.attributes.specs.declared.scalar.Scalar.{Scalar}
use Rattle.attributes.specs.declared.fault.Fault.{Fault}
use Rattle.attributes.specs.declared.fault.Fault.TheVariants.{OutOfMemory}
use Rattle.attributes.specs.JsonText.{IsJsonText}
use Rattle.event_json.specs.Reading.{IsTextOf, max_input}
use Rattle.event_json.specs.Spelling.{candidates, event_in, fault_in, list_of}
use Rattle.event_json.specs.declared.faulty.FaultyMembers.{FaultyMembers}
use Rattle.event_json.specs.steps.FaultyMembers.{AreFaultyOf, HasMembers}
use Rattle.event_json.specs.steps.Pieces.{Gathers, GoesOn}
use Rattle.event_json.specs.Faulty.{FaultyMember, TellsFaulty, fault_unless, faulty, fault_of_numbered, member_of, number_fault, with_fault}
use Rattle.event_json.specs.declared.faulty.Faulty.{Faulty}
use Rattle.event_json.specs.steps.Told.{AllAreNone}
use Rattle.event_json.proofs.FaultLemmas.{IsMemory, either_other, fault_in-other}
use Rattle.event_json.proofs.WalkLemmas.{candidates-Object}

-- the value v at n, which has a fault, joins those that are told
pub told_step : (n m : ℕ) (told new : List Faulty) (t : Faulty) (v : Value) (vs rest : List Value) (o : Option Fault) (all : List FaultyMember) → vs ≡ v ∷ rest → m ≡ n + 1
    → o ≡ fault_of_numbered (view v) → o ≡ Some t.fault → t.index ≡ n → t.tree ≡ v → new ≡ told ++ t ∷ []
    → map member_of told ++ faulty n (map view vs) ≡ all → map member_of new ++ faulty m (map view rest) ≡ all
told_step n m told new t v vs rest o all is_vs is_m is_o is_f at is_tree is_new whole =
    let after = faulty m (map view rest) in
    ap (λ l. map member_of l ++ after) is_new
    ∙ ap (λ l. l ++ after) (map-append member_of told (t ∷ []))
    ∙ append_assoc (map member_of told) (member_of t ∷ []) after
    ∙ ap (λ i. map member_of told ++ record { index = i; fault = t.fault; tree = view t.tree } ∷ after) at
    ∙ ap (λ x. map member_of told ++ record { index = n; fault = t.fault; tree = view x } ∷ after) is_tree
    ∙ ap (λ k. map member_of told ++ record { index = n; fault = t.fault; tree = view v } ∷ faulty k (map view rest)) (is_m ∙ add-one n)
    ∙ ap (λ f. map member_of told ++ with_fault n (view v) f (faulty (suc n) (map view rest))) (sym is_f ∙ is_o)
    ∙ ap (λ l. map member_of told ++ faulty n (map view l)) (sym is_vs)
    ∙ whole

-- the value v at n, which has none, is passed over
pub quiet_step : (n m : ℕ) (told : List Faulty) (v : Value) (vs rest : List Value) (o : Option Fault) (all : List FaultyMember) → vs ≡ v ∷ rest → m ≡ n + 1
    → o ≡ fault_of_numbered (view v) → ((f : Fault) → o ≡ Some f → ⊥) → map member_of told ++ faulty n (map view vs) ≡ all → map member_of told ++ faulty m (map view rest) ≡ all
quiet_step n m told v vs rest None all is_vs is_m is_o quiet whole =
    ap (λ k. map member_of told ++ faulty k (map view rest)) (is_m ∙ add-one n)
    ∙ ap (λ f. map member_of told ++ with_fault n (view v) f (faulty (suc n) (map view rest))) is_o
    ∙ ap (λ l. map member_of told ++ faulty n (map view l)) (sym is_vs)
    ∙ whole
quiet_step n m told v vs rest (Some f) all is_vs is_m is_o quiet whole = absurd (quiet f refl)

nothing_given : IsSome {T = Option Fault} None → ⊥
nothing_given h = cc

-- what n faults, which begin so, give up first
pub first_given : (r : Option (Option Fault)) (fs new rest : List (Option Fault)) (f : Option Fault) (n : ℕ) → n ≡ length fs → (0 < n → IsSome r) → fs ≡ option_to_list r ++ new → fs ≡ f ∷ rest
    → (option_flatten r ≡ f) × (new ≡ rest)
first_given None fs new rest f n is_n some is begins =
    let some_left = is_n ∙ ap length begins in
    absurd (nothing_given (some (omega (arith, some_left))))
first_given (Some x) fs new rest f n is_n some is begins = (cc, cc)

none_faulty : (n : ℕ) (ds : List Data) → AllAreNone (map fault_of_numbered ds) → faulty n ds ≡ []
none_faulty n [] h = refl
none_faulty n (d ∷ ds) h = ap (λ o. with_fault n d o (faulty (suc n) ds)) h.0 ∙ none_faulty (suc n) ds h.1

-- where none is at fault nothing is told
pub quiet : (told : List FaultyMember) (n : ℕ) (ds : List Data) (fs : List (Option Fault)) → fs ≡ map fault_of_numbered ds → AllAreNone fs → told ≡ told ++ faulty n ds
quiet told n ds fs are none = sym (append-nil told) ∙ ap (λ l. told ++ l) (sym (none_faulty n ds (subst AllAreNone are none)))

same_candidates : (v w : Data) (ds es : List Data) → Some v ≡ Some w → candidates v ≡ Some ds → candidates w ≡ Some es → ds ≡ es
same_candidates v w ds es same found again = cc

-- the same bytes read once more have the same members
pub same_members : (b : List ℕ) (ds es : List Data) → HasMembers b ds → HasMembers b es → ds ≡ es
same_members b ds es h g = same_candidates h.0 g.0 ds es (sym h.1.1 ∙ g.1.1) h.2 g.2

-- ---- piece by piece

with_fault-append : (n : ℕ) (d : Data) (o : Option Fault) (xs ys : List FaultyMember) → with_fault n d o (xs ++ ys) ≡ with_fault n d o xs ++ ys
with_fault-append n d None xs ys = refl
with_fault-append n d (Some f) xs ys = refl

faulty-append : (n : ℕ) (ds es : List Data) → faulty n (ds ++ es) ≡ faulty n ds ++ faulty (n + length ds) es
faulty-append n [] es = let here : n ≡ n + 0 = omega arith in ap (λ k. faulty k es) here
faulty-append n (d ∷ ds) es =
    let on : suc n + length ds ≡ n + suc (length ds) = omega arith in
    ap (with_fault n d (fault_of_numbered d)) (faulty-append (suc n) ds es ∙ ap (λ k. faulty (suc n) ds ++ faulty k es) on)
    ∙ with_fault-append n d (fault_of_numbered d) (faulty (suc n) ds) (faulty (n + suc (length ds)) es)

pub more_told : (o n : FaultyMembers) (es : List Data) → map member_of n.told.items ≡ map member_of o.told.items ++ faulty o.count es → n.count ≡ o.count + length es → GoesOn (AreFaultyOf o) (AreFaultyOf n) es
more_told o n es told count ds h =
    let place : o.count ≡ 0 + length ds = omega (arith, h.1) in (
      told ∙ ap (λ x. x ++ faulty o.count es) h.0 ∙ ap (λ k. faulty 0 ds ++ faulty k es) place ∙ sym (faulty-append 0 ds es),
      count ∙ ap (λ k. k + length es) h.1 ∙ sym (length-append ds es),
    )

pub tells_whole : (b : List ℕ) (o : FaultyMembers) → Gathers (b ++ []) (AreFaultyOf o) → length b ≤ max_input → TellsFaulty b (map member_of o.told.items)
tells_whole b o h fits =
    let g = subst (λ x. Gathers x (AreFaultyOf o)) (append-nil b) h in
    record {
      value = array g.holds.items;
      is_text = record { fits = fits; is_json = (g.holds.utf8, g.holds.reads) };
      found = list_of g.holds.items;
      are_found = refl;
      are_faulty = g.is.0 ∙ ap (faulty 0) g.holds.are;
    }

pub candidates-alone : (m : BTreeMap (String Global) Value) → candidates (view (Object m)) ≡ Some (view (Object m) ∷ [])
candidates-alone m = candidates-Object m ∙ ap (λ d. Some (d ∷ [])) (sym (view-Object m))

-- ---- no member's fault is want of memory

fault_at-other : (s : Option Scalar) → IsMemory (Some (fault_at s)) → ⊥
fault_at-other None h = cc
fault_at-other (Some s) h = cc

fault_unless-other : (e : EventValue) (o : Option ℕ) → IsMemory (fault_unless e o) → ⊥
fault_unless-other e (Some n) h = cc
fault_unless-other e None h = fault_at-other (attribute_of (codes "sequence") e) h

member_fault-other : (d : Data) → IsMemory (fault_of_numbered d) → ⊥
member_fault-other d h =
    let e = event_in d in
    either_other (fault_in d) (number_fault e) (fault_in-other d) (fault_unless-other e (number_of e)) h

-- the fault is none of memory
abbrev IsNamed : FaultyMember → Type 0
IsNamed m = m.fault ≢ OutOfMemory

with_fault-named : (n : ℕ) (d : Data) (o : Option Fault) (others : List FaultyMember) → (IsMemory o → ⊥) → AllByRecursion IsNamed others → AllByRecursion IsNamed (with_fault n d o others)
with_fault-named n d None others other rest = rest
with_fault-named n d (Some f) others other rest = ((λ e. other (ap Some e)), rest)

faulty-named : (n : ℕ) (ds : List Data) → AllByRecursion IsNamed (faulty n ds)
faulty-named n [] = tt
faulty-named n (d ∷ ds) = with_fault-named n d (fault_of_numbered d) (faulty (suc n) ds) (member_fault-other d) (faulty-named (suc n) ds)

of_members : (told : List Faulty) → AllByRecursion IsNamed (map member_of told) → AllByRecursion (λ (t : Faulty). t.fault ≢ OutOfMemory) told
of_members [] h = tt
of_members (t ∷ told) h = (h.0, of_members told h.1)

pub told-named : (found : List Data) (told : List Faulty) → map member_of told ≡ faulty 0 found → AllByRecursion (λ (t : Faulty). t.fault ≢ OutOfMemory) told
told-named found told is = of_members told (subst (AllByRecursion IsNamed) (sym is) (faulty-named 0 found))
