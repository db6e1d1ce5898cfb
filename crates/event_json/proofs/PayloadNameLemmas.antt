-- The names of the payload members, as tests and by their order.
use Rattle.std.proofs.Common.{◌≡◌, ℕ, List, Bool, true, false, ◌||◌, bytes_eq, is_eq, Ordering, Less, Equal, Greater, refl, sym, ap, ◌∙◌, true≢false}
use Rattle.std.proofs.lemmas.Map.Text.{is_eq-slice_cmp}
use Rattle.std.proofs.lemmas.Slice.Eq.{bytes_eq-Decides}
use Rattle.std.specs.Ordering.{match_ordering}
use Rattle.attributes.specs.Bytes.{byte_cmp}
use Rattle.event_json.specs.Payload.{tree_name, bytes_name, is_payload}

-- equal names are the same
pub same_name : (m n : List ℕ) → bytes_eq m n ≡ true → m ≡ n
same_name m n h = (bytes_eq-Decides m n).0 h

pub tree_is_payload : is_payload tree_name ≡ true
tree_is_payload = refl

pub bytes_is_payload : is_payload bytes_name ≡ true
bytes_is_payload = refl

-- what is equal to a payload name is one
pub is_payload-same : (m n : List ℕ) → is_payload m ≡ true → bytes_eq m n ≡ true → is_payload n ≡ true
is_payload-same m n h e = ap is_payload (sym (same_name m n e)) ∙ h

either_false : (a b : Bool) → a ≡ false → b ≡ false → (a || b) ≡ false
either_false a b h k = ap (λ x. x || b) h ∙ k

pub is_payload-neither : (n : List ℕ) → bytes_eq tree_name n ≡ false → bytes_eq bytes_name n ≡ false → is_payload n ≡ false
is_payload-neither n h k = either_false (bytes_eq tree_name n) (bytes_eq bytes_name n) h k

left_false : (a b : Bool) → (a || b) ≡ false → a ≡ false
left_false true b h = cc
left_false false b h = refl

right_false : (a b : Bool) → (a || b) ≡ false → b ≡ false
right_false true b h = cc
right_false false b h = h

pub not_tree : (n : List ℕ) → is_payload n ≡ false → bytes_eq tree_name n ≡ false
not_tree n h = left_false (bytes_eq tree_name n) (bytes_eq bytes_name n) h

pub not_bytes : (n : List ℕ) → is_payload n ≡ false → bytes_eq bytes_name n ≡ false
not_bytes n h = right_false (bytes_eq tree_name n) (bytes_eq bytes_name n) h

-- the two names differ
apart_by : (b : Bool) (n : List ℕ) → bytes_eq bytes_name n ≡ b → bytes_eq tree_name n ≡ true → b ≡ false
apart_by true n h e =
    let clash : bytes_eq bytes_name tree_name ≡ true = ap (bytes_eq bytes_name) (same_name tree_name n e) ∙ h in
    cc clash
apart_by false n h e = refl

pub not_bytes-tree : (n : List ℕ) → bytes_eq tree_name n ≡ true → bytes_eq bytes_name n ≡ false
not_bytes-tree n e = apart_by (bytes_eq bytes_name n) n refl e

-- the order tells equal names
pub is_eq-names : (m n : List ℕ) → is_eq (byte_cmp m n) ≡ bytes_eq m n
is_eq-names m n = is_eq-slice_cmp m n

pub choice_at_other : {X : Type 0} (o : Ordering) (a b : X) → is_eq o ≡ false → match_ordering o a b a ≡ a
choice_at_other Less a b h = refl
choice_at_other Equal a b h = absurd (true≢false h)
choice_at_other Greater a b h = refl
