-- The lines of conflicts, read as JSON.
use Rattle.std.proofs.Common.{◌≡◌, ◌≤◌, ◌++◌, ℕ, zero, suc, pos, negsuc, List, [], ◌∷◌, Bool, true, false, ◌||◌, filter, flat_map, length, map, Option, Some, None, option_map, slice_get, refl, sym, ap, ap₂, ◌∙◌, subst, arith, append_assoc}
use Rattle.std.specs.Prelude.{codes}
use Rattle.std.specs.List.{AllByRecursion, join_with_byte}
use Rattle.std.specs.List.Sorted.{IsStrictlySortedBy}
use Rattle.std.proofs.lemmas.List.{length-map}
use Rattle.std.proofs.lemmas.Option.{slice_get-map}
use Rattle.json.specs.Print.{quoted}
use Rattle.serde_json.specs.Data.{Data, Items, Members, Num, array, boolean, depth, float, item, items_depth, member, members_depth, negative, no_items, no_members, null, number, object, string, unsigned}
use Rattle.serde_json.specs.Find.{get, is_float}
use Rattle.serde_json.specs.Read.{max_depth}
use Rattle.serde_json.specs.View.{items_of, view}
use Rattle.serde_json.specs.Written.{compact_text, has_float, items_have_float, items_text, members_have_float}
use Rattle.serde_json.specs.declared.value.Value.{Value}
use Rattle.serde_json.proofs.OnLiterals.{serde_json_on_literals}
use Rattle.attributes.specs.Event.{EventValue, members_of, text}
use Rattle.attributes.specs.Exact.{IsExact, IsWholeNumber, ItemsAreExact, KeysAscend, MembersAreExact}
use Rattle.attributes.proofs.LawLemmas.{depth_event, exact_event}
use Rattle.attributes.proofs.LineLemmas.{line as seen_line}
use Rattle.inbox.specs.Conflicts.{conflict_of, conflicts, is_first_of_several}
use Rattle.inbox.specs.KeyOrder.{same_key}
use Rattle.inbox.specs.declared.conflict.Conflict.{Conflict}
use Rattle.views.specs.Line.{conflict_line, conflict_lines, line}
use Rattle.parts.specs.Conflict.{IsSequenced, conflict_data, event_data}
use Rattle.parts.specs.Lines.{AreLinesOf}
use Rattle.parts.proofs.ConflictLemmas.{all_of}
use Rattle.parts.proofs.LineLemmas.{seen_plain}
use Rattle.parts.proofs.MergeLemmas.{all_left}
use Rattle.parts.proofs.ReadLemmas.{IsTextOf, none_some, some_one}

-- ---- the text of the line

quoted_events : quoted (codes "events") ≡ codes "\"events\""
unfolding serde_json_on_literals
quoted_events = refl

quoted_id : quoted (codes "id") ≡ codes "\"id\""
unfolding serde_json_on_literals
quoted_id = refl

quoted_source : quoted (codes "source") ≡ codes "\"source\""
unfolding serde_json_on_literals
quoted_source = refl

abbrev objects : List EventValue → Items
objects es = items_of (map event_data es)

items_more : (e : EventValue) (es : List EventValue) → text e ++ items_text true (objects es) ≡ join_with_byte 44 (text e ∷ map text es) ++ 93 ∷ []
items_more e [] = refl
items_more e (f ∷ es) = ap (λ l. text e ++ 44 ∷ l) (items_more f es) ∙ sym (append_assoc (text e) (44 ∷ join_with_byte 44 (text f ∷ map text es)) (93 ∷ []))

items_joined : (es : List EventValue) → items_text false (objects es) ≡ join_with_byte 44 (map text es) ++ 93 ∷ []
items_joined [] = refl
items_joined (e ∷ es) = items_more e es

conflict_text : (c : Conflict) → conflict_line c ≡ line (compact_text (conflict_data c))
conflict_text c =
    let joined = join_with_byte 44 (map text c.events) in
    let behind : List ℕ → List ℕ → List ℕ = λ b s. 44 ∷ (b ++ 58 ∷ (quoted c.id ++ 44 ∷ (s ++ 58 ∷ (quoted c.source ++ 125 ∷ [])))) in
    let whole : List ℕ → List ℕ → List ℕ → List ℕ → List ℕ = λ a b s items. 123 ∷ (a ++ 58 ∷ 91 ∷ (items ++ behind b s)) in
    let names : whole (quoted (codes "events")) (quoted (codes "id")) (quoted (codes "source")) (items_text false (objects c.events)) ≡ whole (codes "\"events\"") (codes "\"id\"") (codes "\"source\"") (joined ++ 93 ∷ []) =
    λ k. whole (quoted_events k) (quoted_id k) (quoted_source k) (items_joined c.events k) in
    ap line (sym (names ∙ ap (λ l. codes "{\"events\":[" ++ l) (append_assoc joined (93 ∷ []) (behind (codes "\"id\"") (codes "\"source\"")))))

-- ---- as JSON

exact_objects : (es : List EventValue) → AllByRecursion IsSequenced es → ItemsAreExact (objects es)
exact_objects [] a = tt
exact_objects (e ∷ es) a = (exact_event e a.0.0, exact_objects es a.1)

shallow_objects : (es : List EventValue) → AllByRecursion IsSequenced es → items_depth (objects es) ≤ 121
shallow_objects [] a = omega arith
shallow_objects (e ∷ es) a =
    let event : members_depth (members_of e) ≤ 120 = depth_event e a.0.0 in
    let rest : items_depth (objects es) ≤ 121 = shallow_objects es a.1 in
    omega arith

keys_ascend : (a b c : Data) → KeysAscend (member (codes "events") a (member (codes "id") b (member (codes "source") c no_members)))
unfolding IsStrictlySortedBy
keys_ascend a b c = ((refl, (refl, tt)), ((refl, tt), (tt, tt)))

exact_conflict : (c : Conflict) → AllByRecursion IsSequenced c.events → IsExact (conflict_data c)
exact_conflict c a = (keys_ascend (array (objects c.events)) (string c.id) (string c.source), (exact_objects c.events a, (tt, (tt, tt))))

shallow_conflict : (c : Conflict) → AllByRecursion IsSequenced c.events → depth (conflict_data c) ≤ max_depth
shallow_conflict c a =
    let deep : items_depth (objects c.events) ≤ 121 = shallow_objects c.events a in
    omega arith

pub conflict_is : (c : Conflict) (l : List ℕ) → AllByRecursion IsSequenced c.events → l ≡ compact_text (conflict_data c) → IsTextOf l (conflict_data c)
conflict_is c l a is = record { exact = exact_conflict c a; shallow = shallow_conflict c a; is = is }

-- what stands at `events`
pub events_at : (c : Conflict) → get (codes "events") (conflict_data c) ≡ Some (array (objects c.events))
events_at c = refl

-- ---- whole numbers are no floats

or_false : (a b : Bool) → a ≡ false → b ≡ false → (a || b) ≡ false
or_false a b g h = ap₂ (λ x y. x || y) g h

whole_number : (n : Num) → IsWholeNumber n → is_float n ≡ false
whole_number (unsigned n) h = refl
whole_number (negative (pos n)) h = absurd h
whole_number (negative (negsuc n)) h = refl
whole_number (float x) h = absurd h

mutual
  no_float : (d : Data) → IsExact d → has_float d ≡ false
  no_float null h = refl
  no_float (boolean b) h = refl
  no_float (number n) h = whole_number n h
  no_float (string s) h = refl
  no_float (array ds) h = no_float_items ds h
  no_float (object ms) h = no_float_members ms h.1

  no_float_items : (ds : Items) → ItemsAreExact ds → items_have_float ds ≡ false
  no_float_items no_items h = refl
  no_float_items (item d ds) h = or_false (has_float d) (items_have_float ds) (no_float d h.0) (no_float_items ds h.1)

  no_float_members : (ms : Members) → MembersAreExact ms → members_have_float ms ≡ false
  no_float_members no_members h = refl
  no_float_members (member k d ms) h = or_false (has_float d) (members_have_float ms) (no_float d h.0) (no_float_members ms h.1)

-- ---- the items of the array

item_one : (c d : Data) (cs ds : Items) → item c cs ≡ item d ds → c ≡ d
item_one c d cs ds h = cc

rest_one : (c d : Data) (cs ds : Items) → item c cs ≡ item d ds → cs ≡ ds
rest_one c d cs ds h = cc

none_item : (d : Data) (ds : Items) → no_items ≡ item d ds → ⊥
none_item d ds h = cc

items_one : (xs ys : List Data) → items_of xs ≡ items_of ys → xs ≡ ys
items_one [] [] h = refl
items_one [] (y ∷ ys) h = absurd (none_item y (items_of ys) h)
items_one (x ∷ xs) [] h = absurd (none_item x (items_of xs) (sym h))
items_one (x ∷ xs) (y ∷ ys) h = ap₂ (λ a l. a ∷ l) (item_one x y (items_of xs) (items_of ys) h) (items_one xs ys (rest_one x y (items_of xs) (items_of ys) h))

-- an item and its event
pub record IsItem (es : List EventValue) (i : ℕ) (v : Value) : Type 0 where
  pub event : EventValue
  pub there : slice_get es i ≡ Some event
  pub own : IsSequenced event
  pub is : view v ≡ event_data event
  pub whole : has_float (view v) ≡ false

mapped_some : {X Y : Type 0} (f : X → Y) (m : Option X) (y : Y) → option_map f m ≡ Some y → (x : X) × (m ≡ Some x) × (f x ≡ y)
mapped_some f None y h = absurd (none_some y h)
mapped_some f (Some x) y h = (x, refl, some_one (f x) y h)

own_at : (es : List EventValue) (i : ℕ) (e : EventValue) → AllByRecursion IsSequenced es → slice_get es i ≡ Some e → IsSequenced e
own_at [] i e a h = absurd (none_some e h)
own_at (x ∷ es) zero e a h = subst IsSequenced (some_one x e h) a.0
own_at (x ∷ es) (suc i) e a h = own_at es i e a.1 h

pub item_at : (items : List Value) (es : List EventValue) (i : ℕ) (v : Value) → AllByRecursion IsSequenced es → items_of (map view items) ≡ objects es → slice_get items i ≡ Some v → IsItem es i v
item_at items es i v a same got =
    let both = items_one (map view items) (map event_data es) same in
    let there : option_map event_data (slice_get es i) ≡ Some (view v) =
    sym (slice_get-map event_data es i) ∙ ap (λ l. slice_get l i) (sym both) ∙ slice_get-map view items i ∙ ap (option_map view) got in
    let e = mapped_some event_data (slice_get es i) (view v) there in
    let own = own_at es i e.0 a e.1 in
    record { event = e.0; there = e.1; own = own; is = sym e.2; whole = no_float (view v) (subst IsExact e.2 (exact_event e.0 own.0)) }

pub as_many : (items : List Value) (es : List EventValue) → items_of (map view items) ≡ objects es → length es ≡ length items
as_many items es same = sym (length-map es event_data) ∙ sym (ap length (items_one (map view items) (map event_data es) same)) ∙ length-map items view

-- ---- all lines

abbrev pub is_row : List EventValue → List ℕ → Type 0
is_row es l = (c : Conflict) × (c.events ≡ es) × AllByRecursion IsSequenced es × (l ≡ compact_text (conflict_data c))

abbrev pub events_in : Conflict → List EventValue
events_in c = c.events

rows_of : (cs : List Conflict) → AllByRecursion (λ c. AllByRecursion IsSequenced c.events) cs → AreLinesOf is_row (map events_in cs) (conflict_lines cs)
rows_of [] a = refl
rows_of (c ∷ cs) a =
    let own = compact_text (conflict_data c) in (
      own,
      conflict_lines cs,
      (c, refl, a.0, refl),
      seen_plain own (seen_line (conflict_data c) (exact_conflict c a.0)),
      ap (λ l. l ++ conflict_lines cs) (conflict_text c) ∙ append_assoc own (10 ∷ []) (conflict_lines cs),
      rows_of cs a.1,
    )

all_rows : (E L : List EventValue) → AllByRecursion IsSequenced E → AllByRecursion (λ c. AllByRecursion IsSequenced c.events) (map (conflict_of E) L)
all_rows E [] a = tt
all_rows E (e ∷ L) a = (all_left IsSequenced (λ f. same_key f e) E a, all_rows E L a)

pub conflict_rows : (E : List EventValue) → AllByRecursion IsSequenced E → AreLinesOf is_row (map events_in (conflicts E)) (conflict_lines (conflicts E))
conflict_rows E a = rows_of (conflicts E) (all_rows E (filter (is_first_of_several E) E) a)

pub flat_rows : (cs : List Conflict) → flat_map (λ (es : List EventValue). es) (map events_in cs) ≡ all_of cs
flat_rows [] = refl
flat_rows (c ∷ cs) = ap (λ l. c.events ++ l) (flat_rows cs)
