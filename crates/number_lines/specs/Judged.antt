-- Which events lines have that are to be numbered, and why they have none.
use Rattle.std.specs.Prelude.{◌≡◌, ◌≢◌, ◌⊎◌, ℕ, suc, codes, ◌+◌, List, [], ◌∷◌, length, take, slice_get, count_by, is_some, Option, None, Some}
use Rattle.attributes.specs.Event.{EventValue, attribute_of}
use Rattle.event_json.specs.Reading.{Reads, Refuses}
use Rattle.line_intake.specs.Judged.{TakesLines}
use Rattle.numbers.specs.Aside.{IsAside}
use Rattle.numbers.specs.Numbered.{AreBare}
use Rattle.numbers.specs.Refusal.{refusal_from}
use Rattle.number_lines.specs.declared.refusal.LineRefusal.{LineRefusal}
use Rattle.number_lines.specs.declared.refusal.LineRefusal.TheVariants as refusal
use Rattle.number_lines.specs.declared.refusal.Told.{Told}

-- the event as it is numbered: as it came, or, where a name is given for that, with its own
-- `sequence` by this name
abbrev pub IsOwn : Option (List ℕ) → EventValue → EventValue → Type 0
IsOwn None e x = x ≡ e
IsOwn (Some name) e x =
    ((attribute_of (codes "sequence") e ≡ None) × (x ≡ e)) ⊎ IsAside name e x

abbrev pub AreOwn : Option (List ℕ) → List EventValue → List EventValue → Type 0
AreOwn aside [] [] = Unit {0}
AreOwn aside (e ∷ given) (x ∷ events) = IsOwn aside e x × AreOwn aside given events
AreOwn aside _ _ = ⊥

-- the line's events before the one at this place have no number or have it by the name, and the one
-- there has one, which can't go by it
pub record IsFirstNotAside (name : List ℕ) (given : List EventValue) (index : ℕ) : Type 0 where
  pub before : List EventValue
  pub own : AreOwn (Some name) (take index given) before
  pub event : EventValue
  pub is : slice_get given index ≡ Some event
  pub has : attribute_of (codes "sequence") event ≢ None

-- an event's own number stops the line where it can't go by the given name; never where none is
abbrev pub StopsAside : Option (List ℕ) → List EventValue → ℕ → Type 0
StopsAside None given index = ⊥
StopsAside (Some name) given index = IsFirstNotAside name given index

-- the line spells events, and these are they as they are numbered, none with a number and each with
-- room for one; or this is why nothing of it is numbered: it spells none, this is the first that
-- can't be numbered, or the first whose own number can't go by the name for it
abbrev pub IsJudgedToNumber : Option (List ℕ) → List ℕ → Option LineRefusal → List EventValue → Type 0
IsJudgedToNumber aside line None L =
    (given : List EventValue) × Reads line given × AreOwn aside given L × AreBare L
IsJudgedToNumber aside line (Some (refusal.Read why)) L = Refuses line why × (L ≡ [])
IsJudgedToNumber aside line (Some (refusal.Number why)) L = (given events : List EventValue)
    × Reads line given × AreOwn aside given events × (refusal_from 0 events ≡ Some why) × (L ≡ [])
IsJudgedToNumber aside line (Some (refusal.Aside index)) L =
    (given : List EventValue) × Reads line given × StopsAside aside given index × (L ≡ [])

-- these lines come behind so many others; each but the empty ones is told with its place, counted
-- from 1, and with its events
abbrev pub AreJudgedToNumber : Option (List ℕ) → ℕ → List (List ℕ) → List Told → List (List EventValue)
    → Type 0
AreJudgedToNumber aside before [] [] [] = Unit {0}
AreJudgedToNumber aside before ([] ∷ lines) tells lists = AreJudgedToNumber aside (suc before) lines tells lists
AreJudgedToNumber aside before ((b ∷ line) ∷ lines) (told ∷ tells) (L ∷ lists) =
    (told.line ≡ suc before) × IsJudgedToNumber aside (b ∷ line) told.fault L
    × AreJudgedToNumber aside (suc before) lines tells lists
AreJudgedToNumber aside before _ _ _ = ⊥

-- so many lines were there before, so many are there now: the input lost those between, and they
-- are told so
pub record IsGatheredToNumber (aside : Option (List ℕ)) (before now : ℕ) (old new : Option (List ℕ))
    (tells : List Told) (lists : List (List EventValue)) : Type 0 where
  pub lines : List (List ℕ)
  pub taken : TakesLines old lines new
  pub judged : AreJudgedToNumber aside before lines tells lists
  pub count : now ≡ before + length lines

-- how many lines to be numbered are refused
abbrev pub refusals_in : List Told → ℕ
refusals_in tells = count_by (λ t. is_some t.fault) tells
