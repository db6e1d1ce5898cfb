-- Events that are there, and those that come.
use Rattle.std.proofs.Common.{◌≡◌, List, [], ◌∷◌, ◌++◌, Bool, true, false, ◌&&◌, if◌then◌else◌, Less, Equal, Greater, is_eq, bytes_eq, refl, ap, ◌∙◌}
use Rattle.std.specs.Ordering.{ordering_then}
use Rattle.std.specs.declared.cmp.Ordering.{Ordering}
use Rattle.std.proofs.lemmas.Map.Text.{is_eq-slice_cmp}
use Rattle.attributes.specs.Bytes.{byte_cmp}
use Rattle.attributes.specs.Event.{EventValue, id_of, source_of, text}
use Rattle.inbox.specs.KeyOrder.{key_cmp}
use Rattle.inbox.specs.Ordered.{append_new, has}
use Rattle.inbox_table.specs.Rows.{AreNumbered, IsEachOnce, IsNumbered}

pub append_twice : (A B C : List EventValue) → append_new key_cmp A (B ++ C) ≡ append_new key_cmp (append_new key_cmp A B) C
append_twice A [] C = refl
append_twice A (e ∷ B) C = append_twice (if has key_cmp A e then A else A ++ e ∷ []) B C

-- an event that comes to a list without repeats leaves none
pub once_more : (events : List EventValue) (e : EventValue) → IsEachOnce events → has key_cmp events e ≡ false → IsEachOnce (events ++ e ∷ [])
once_more events e once none =
    append_twice [] events (e ∷ []) ∙ ap (λ A. append_new key_cmp A (e ∷ [])) once ∙ ap (λ b. if b then events else events ++ e ∷ []) none

pub numbered_more : (events : List EventValue) (e : EventValue) → AreNumbered events → IsNumbered e → AreNumbered (events ++ e ∷ [])
numbered_more [] e h one = (one, tt)
numbered_more (x ∷ events) e h one = (h.0, numbered_more events e h.1 one)

tied : (a b : Ordering) → is_eq (ordering_then a b) ≡ (is_eq a && is_eq b)
tied Less b = refl
tied Equal b = refl
tied Greater b = refl

both : (a b c : Bool) → ((a && b) && c) ≡ (a && (b && c))
both true b c = refl
both false b c = refl

-- two events tie where source, id and text are equal
pub key_is : (e x : EventValue) → is_eq (key_cmp e x) ≡ (bytes_eq (source_of e) (source_of x) && (bytes_eq (id_of e) (id_of x) && bytes_eq (text e) (text x)))
key_is e x =
    let s = byte_cmp (source_of e) (source_of x) in
    let i = byte_cmp (id_of e) (id_of x) in
    let t = byte_cmp (text e) (text x) in
    tied (ordering_then s i) t ∙ ap (λ b. b && is_eq t) (tied s i) ∙ both (is_eq s) (is_eq i) (is_eq t)
    ∙ ap (λ b. b && (is_eq i && is_eq t)) (is_eq-slice_cmp (source_of e) (source_of x))
    ∙ ap (λ b. bytes_eq (source_of e) (source_of x) && (b && is_eq t)) (is_eq-slice_cmp (id_of e) (id_of x))
    ∙ ap (λ b. bytes_eq (source_of e) (source_of x) && (bytes_eq (id_of e) (id_of x) && b)) (is_eq-slice_cmp (text e) (text x))
