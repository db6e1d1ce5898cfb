-- Two pieces of a batch are one.
use Rattle.std.proofs.Common.{◌≡◌, ◌≢◌, ℕ, suc, ◌+◌, ◌-◌, ◌<◌, ◌≤◌, List, [], ◌∷◌, ◌++◌, map, length, take, drop, Option, Some, None, IfSome, slice_get, slice_range, IsUtf8, refl, sym, ap, ap₂, ◌∙◌, subst, arith, append_assoc, append-nil, take-add}
use Rattle.std.proofs.Math.Seq.{take-append_seam}
use Rattle.std.proofs.lemmas.List.{take-append-drop, drop_more, take_rest}
use Rattle.std.proofs.lemmas.Option.{slice_get_within, get_or_from_slice_get}
use Rattle.std.proofs.lemmas.Str.{IsUtf8-append, IsUtf8-take, IsUtf8-drop, IsCharBoundary-at_seam, IsCharBoundary-after_ascii}
use Rattle.serde_json.specs.Data.{Data, array, Items, no_items, item}
use Rattle.serde_json.specs.Read.{read}
use Rattle.serde_json.specs.View.{view, items_view}
use Rattle.serde_json.specs.declared.value.Value.{Value}
use Rattle.array_texts.specs.Arrays.{append_items, HasItems}
use Rattle.array_texts.proofs.Joining.{join_texts}
use Rattle.event_json.specs.Spelling.{list_of}
use Rattle.event_json.specs.Parts.{HoldsSome}
use Rattle.event_json.specs.steps.Pieces.{AddsMembers, Gathers, GoesOn}
use Rattle.event_json.proofs.WalkLemmas.{list_of-items_view}

-- ---- UTF-8

comma : IsUtf8 (44 ∷ [])
unfolding lib.Utf8.encode
comma = (44 ∷ [], (refl, refl))

bracket : IsUtf8 (93 ∷ [])
unfolding lib.Utf8.encode
bracket = (93 ∷ [], (refl, refl))

front_utf8 : (f : List ℕ) → IsUtf8 (f ++ 93 ∷ []) → IsUtf8 f
front_utf8 f h =
    subst IsUtf8 (take-append_seam f (93 ∷ []))
    (IsUtf8-take (f ++ 93 ∷ []) (length f) h (IsCharBoundary-at_seam (f ++ 93 ∷ []) f (93 ∷ []) refl bracket))

back_utf8 : (t : List ℕ) → IsUtf8 (91 ∷ t) → IsUtf8 t
back_utf8 t h = IsUtf8-drop (91 ∷ t) 1 h (IsCharBoundary-after_ascii (91 ∷ t) 0 h (omega arith) (omega arith))

joined_utf8 : (f t : List ℕ) → IsUtf8 (f ++ 93 ∷ []) → IsUtf8 (91 ∷ t) → IsUtf8 (f ++ 44 ∷ t)
joined_utf8 f t a b = IsUtf8-append f (44 ∷ t) (front_utf8 f a) (IsUtf8-append (44 ∷ []) t comma (back_utf8 t b))

-- ---- items

list_of-append_items : (xs ys : Items) → list_of (append_items xs ys) ≡ list_of xs ++ list_of ys
list_of-append_items no_items ys = refl
list_of-append_items (item d xs) ys = ap (λ l. d ∷ l) (list_of-append_items xs ys)

some_append : (xs ys : Items) → HasItems xs → HasItems (append_items xs ys)
some_append no_items ys h = absurd h
some_append (item d xs) ys h = tt

pub join_held : (f t : List ℕ) (ds es : List Data) → HoldsSome (f ++ 93 ∷ []) ds → HoldsSome (91 ∷ t) es → HoldsSome (f ++ 44 ∷ t) (ds ++ es)
join_held f t ds es a b =
    record {
      items = append_items a.items b.items;
      utf8 = joined_utf8 f t a.utf8 b.utf8;
      reads = join_texts f t a.items b.items a.reads b.reads a.some b.some;
      some = some_append a.items b.items a.some;
      are = ap₂ (λ (x y : List Data). x ++ y) a.are b.are ∙ sym (list_of-append_items a.items b.items);
    }

-- what is gathered of a front, once more members stand behind it
join : (f t : List ℕ) (P Q : List Data → Type 0) → Gathers (f ++ 93 ∷ []) P → AddsMembers (91 ∷ t) P Q → Gathers (f ++ 44 ∷ t) Q
join f t P Q a b =
    record {
      members = a.members ++ b.members;
      holds = join_held f t a.members b.members a.holds b.holds;
      is = b.goes_on a.members a.is;
    }

-- ---- one piece

some_view : (vs : List Value) → vs ≢ [] → HasItems (items_view vs)
some_view [] h = absurd (h refl)
some_view (v ∷ vs) h = tt

pub piece : (b : List ℕ) (vs : List Value) (P Q : List Data → Type 0) → vs ≢ [] → IsUtf8 b → read b ≡ Some (array (items_view vs)) → GoesOn P Q (map view vs) → AddsMembers b P Q
piece b vs P Q some utf8 reads goes_on =
    record {
      members = map view vs;
      holds = record { items = items_view vs; utf8 = utf8; reads = reads; some = some_view vs some; are = sym (list_of-items_view vs) };
      goes_on = goes_on;
    }

-- ---- where a text is cut

at_comma : (b : List ℕ) (i : ℕ) → slice_get b i ≡ Some 44 → drop i b ≡ 44 ∷ drop (i + 1) b
at_comma b i h = drop_more b i 0 (slice_get_within b i 44 h) ∙ ap (λ x. x ∷ drop (i + 1) b) (get_or_from_slice_get b i 44 0 h)

pub cut_rest : (b : List ℕ) (i : ℕ) → slice_get b i ≡ Some 44 → take i b ++ 44 ∷ drop (i + 1) b ≡ b
cut_rest b i h = ap (λ l. take i b ++ l) (sym (at_comma b i h)) ∙ take-append-drop i b

cut_piece : (b : List ℕ) (i j : ℕ) → slice_get b i ≡ Some 44 → i + 1 ≤ j → take i b ++ 44 ∷ slice_range b (i + 1) j ≡ take j b
cut_piece b i j h le =
    let n : j ≡ i + (j - i) = omega arith in
    let m : j - i ≡ suc (j - (i + 1)) = omega arith in
    sym (ap (λ k. take k b) n ∙ take-add i (j - i) b ∙ ap (λ l. take i b ++ take (j - i) l) (at_comma b i h) ∙ ap (λ k. take i b ++ take k (44 ∷ drop (i + 1) b)) m)

-- ---- a piece more

-- a piece joins what stands before a comma
grown : (o f t b : List ℕ) (P Q : List Data → Type 0) → Gathers (o ++ (f ++ 93 ∷ [])) P → AddsMembers (91 ∷ t) P Q → f ++ 44 ∷ t ≡ b → Gathers (o ++ b) Q
grown o f t b P Q old a is =
    subst (λ x. Gathers x Q) (append_assoc o f (44 ∷ t) ∙ ap (λ x. o ++ x) is)
    (join (o ++ f) t P Q (subst (λ x. Gathers x P) (sym (append_assoc o f (93 ∷ []))) old) a)

pub next_piece : (b o : List ℕ) (i j : ℕ) (text : List ℕ) (P Q : List Data → Type 0) → slice_get b i ≡ Some 44 → i + 1 ≤ j → text ≡ 91 ∷ (slice_range b (i + 1) j ++ 93 ∷ []) → Gathers (o ++ (take i b ++ 93 ∷ [])) P → AddsMembers text P Q
    → Gathers (o ++ (take j b ++ 93 ∷ [])) Q
next_piece b o i j text P Q h le is old a =
    grown o (take i b) (slice_range b (i + 1) j ++ 93 ∷ []) (take j b ++ 93 ∷ []) P Q old (subst (λ t. AddsMembers t P Q) is a)
    (sym (append_assoc (take i b) (44 ∷ slice_range b (i + 1) j) (93 ∷ [])) ∙ ap (λ t. t ++ 93 ∷ []) (cut_piece b i j h le))

pub last_piece : (b o c : List ℕ) (i : ℕ) (text : List ℕ) (P Q : List Data → Type 0) → slice_get b i ≡ Some 44 → text ≡ 91 ∷ (slice_range b (i + 1) (length b) ++ c) → Gathers (o ++ (take i b ++ 93 ∷ [])) P → AddsMembers text P Q
    → Gathers (o ++ (b ++ c)) Q
last_piece b o c i text P Q h is old a =
    grown o (take i b) (drop (i + 1) b ++ c) (b ++ c) P Q old (subst (λ t. AddsMembers t P Q) (is ∙ ap (λ t. 91 ∷ (t ++ c)) (take_rest b (i + 1))) a)
    (sym (append_assoc (take i b) (44 ∷ drop (i + 1) b) c) ∙ ap (λ t. t ++ c) (cut_rest b i h))

-- the first piece
pub first_piece : (text : List ℕ) (P Q : List Data → Type 0) → P [] → AddsMembers text P Q → Gathers text Q
first_piece text P Q p a = record { members = a.members; holds = a.holds; is = a.goes_on [] p }

pub of_some : {A : Type 0} (P : A → Type 0) (o : Option A) (a : A) → o ≡ Some a → IfSome o P → P a
of_some P o a e h = subst (λ x. IfSome x P) e h

-- what holds of what is there holds in another way too
pub some_weaker : {A : Type 0} (P Q : A → Type 0) (o : Option A) → ((a : A) → P a → Q a) → IfSome o P → IfSome o Q
some_weaker P Q None f h = tt
some_weaker P Q (Some a) f h = f a h
