-- Which events of a set E, a list in key order, are shown: of those with one source and id the one
-- whose canonical text is least (CloudEvents 1.0.2, "source" and "id"; that the least text is shown
-- is this project's own rule).
use Rattle.std.specs.Prelude.{◌≡◌, ℕ, List, Bool, true, false, not, ◌&&◌, Some, bytes_eq, filter, slice_get}
use Rattle.std.specs.Ordering.{is_lt}
use Rattle.std.specs.List.{list_any}
use Rattle.attributes.specs.Event.{EventValue, id_of, source_of}
use Rattle.inbox.specs.KeyOrder.{same_key, text_cmp}

-- whether an event is shown: no event of E has its key and a lesser text
abbrev pub is_shown : List EventValue → EventValue → Bool
is_shown E e = not (list_any (λ f. same_key f e && is_lt (text_cmp f e)) E)

-- the shown events of the set
abbrev pub shown : List EventValue → List EventValue
shown E = filter (is_shown E) E

-- whether an event has a source and an id, by which a set is searched
abbrev pub has_key : List ℕ → List ℕ → EventValue → Bool
has_key source id e = bytes_eq (source_of e) source && bytes_eq (id_of e) id

-- the set's shown event of a source and an id
pub record IsShownOf (E : List EventValue) (source id : List ℕ) (e : EventValue) : Type 0 where
  pub place : ℕ
  pub is_there : slice_get E place ≡ Some e
  pub of_key : has_key source id e ≡ true
  pub least : is_shown E e ≡ true

-- no event of the set has this source and id
abbrev pub NoneHas : List EventValue → List ℕ → List ℕ → Type 0
NoneHas E source id = list_any (has_key source id) E ≡ false
