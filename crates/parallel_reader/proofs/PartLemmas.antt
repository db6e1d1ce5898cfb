-- Two parts of a batch, cut at a comma, are one.
use Rattle.std.proofs.Common.{◌≡◌, ◌≤◌, ◌+◌, ◌&&◌, ℕ, List, [], ◌∷◌, ◌++◌, Bool, true, false, true≢false, length, take, Option, Some, None, Result, Ok, IfOk, IfSome, slice_get, slice_range, refl, sym, ap, ap₂, ◌∙◌, subst}
use Rattle.std.specs.Prelude.{is_some}
use Rattle.std.specs.List.{list_all}
use Rattle.std.specs.List.Sorted.{IsPermutation}
use Rattle.std.proofs.lemmas.List.Folds.{list_all-append}
use Rattle.std.proofs.lemmas.List.Sorted.{IsPermutation-append, IsPermutation-refl}
use Rattle.attributes.specs.Event.{EventValue}
use Rattle.attributes.specs.Sequence.{number_of}
use Rattle.event_json.specs.Parts.{PartsSpellBoth, SpellsSome, WholesRead, part_text}
use Rattle.event_json.specs.Reading.{max_input}
use Rattle.inbox.specs.Sets.{AreEvents}
use Rattle.event_files.specs.Files.{AreSequenced, SpellsBatch}
use Rattle.parallel_reader.specs.Parts.{IsBatchPart}

pub of_ok : {A E : Type 0} (P : A → Type 0) (r : Result A E) (a : A) → r ≡ Ok a → IfOk r P → P a
of_ok P r a e h = subst (λ x. IfOk x P) e h

pub of_some : {A : Type 0} (P : A → Type 0) (o : Option A) (a : A) → o ≡ Some a → IfSome o P → P a
of_some P o a e h = subst (λ x. IfSome x P) e h

pub some_weaker : {A : Type 0} (P Q : A → Type 0) (o : Option A) → ((a : A) → P a → Q a) → IfSome o P → IfSome o Q
some_weaker P Q None f h = tt
some_weaker P Q (Some a) f h = f a h

are_append : (xs ys : List EventValue) → AreEvents xs → AreEvents ys → AreEvents (xs ++ ys)
are_append [] ys h k = k
are_append (x ∷ xs) ys h k = (h.0, are_append xs ys h.1 k)

pub joined_part : PartsSpellBoth → (b : List ℕ) (opened closed : Bool) (at : ℕ) (is_sorted : Bool) (l r n : List EventValue) → slice_get b at ≡ Some 44
    → IsBatchPart (part_text opened (take at b) false) is_sorted l → IsBatchPart (part_text false (slice_range b (at + 1) (length b)) closed) is_sorted r → n ≡ l ++ r → IsBatchPart (part_text opened b closed) is_sorted n
joined_part law b opened closed at is_sorted l r n comma one two is =
    record {
      events = one.events ++ two.events;
      spells = law b opened closed at one.events two.events comma one.spells two.spells;
      numbered = list_all-append (λ (e : EventValue). is_some (number_of e)) one.events two.events ∙ ap₂ (λ (x y : Bool). x && y) one.numbered two.numbered;
      are = are_append one.events two.events one.are two.are;
      same = subst (IsPermutation (one.events ++ two.events)) (sym is) (IsPermutation-append one.events l two.events r one.same two.same);
      in_order = λ s. is ∙ ap₂ (λ (x y : List EventValue). x ++ y) (one.in_order s) (two.in_order s);
    }

pub whole_part : WholesRead → (b : List ℕ) (is_sorted : Bool) (batch : List EventValue) → length b ≤ max_input → IsBatchPart (part_text true b true) is_sorted batch → SpellsBatch b is_sorted batch
whole_part law b is_sorted batch fits p =
    record {
      events = p.events;
      spells = record { reads = law b p.events p.spells fits; numbered = p.numbered; are = p.are };
      same = p.same;
      in_order = p.in_order;
    }

-- ---- a part that one thread read

pub sorted_part : (b : List ℕ) (is_sorted : Bool) (l numbered batch : List EventValue) → SpellsSome b l → numbered ≡ l → AreSequenced numbered → AreEvents numbered → IsPermutation numbered batch → is_sorted ≡ true → IsBatchPart b is_sorted batch
sorted_part b is_sorted l numbered batch spells is have are same t =
    record {
      events = numbered;
      spells = subst (SpellsSome b) (sym is) spells;
      numbered = have;
      are = are;
      same = same;
      in_order = λ f. absurd (true≢false (sym t ∙ f));
    }

pub ordered_part : (b : List ℕ) (is_sorted : Bool) (l numbered batch : List EventValue) → SpellsSome b l → numbered ≡ l → AreSequenced numbered → AreEvents numbered → batch ≡ numbered → IsBatchPart b is_sorted batch
ordered_part b is_sorted l numbered batch spells is have are same =
    record {
      events = numbered;
      spells = subst (SpellsSome b) (sym is) spells;
      numbered = have;
      are = are;
      same = subst (IsPermutation numbered) (sym same) (IsPermutation-refl numbered);
      in_order = λ f. same;
    }
