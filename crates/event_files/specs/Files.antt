-- The events of files, and why they are refused.
use Rattle.std.specs.Prelude.{◌≡◌, ◌≤◌, ◌⊎◌, ℕ, Bool, List, [], ◌∷◌, length, true, false, None, Some, is_some, slice_get, take}
use Rattle.std.specs.List.{flat_map, list_all}
use Rattle.std.specs.List.Sorted.{IsPermutation}
use Rattle.attributes.specs.Event.{EventValue}
use Rattle.attributes.specs.Sequence.{number_of, sequence_fault}
use Rattle.attributes.specs.declared.fault.Fault.{Fault}
use Rattle.event_json.specs.Reading.{Refuses, Reads, max_input}
use Rattle.inbox.specs.Sets.{AreEvents}
use Rattle.event_files.specs.declared.refusal.ReportFault.{ReportFault}
use Rattle.event_files.specs.declared.refusal.ReportFault.TheVariants as fault
use Rattle.event_files.specs.declared.refusal.Refused.{Refused}

-- each event of a file has a number
abbrev pub AreSequenced : List EventValue → Type 0
AreSequenced events = list_all (λ e. is_some (number_of e)) events ≡ true

-- each file spells its list of events, all of them with numbers
abbrev pub EachReads : List (List ℕ) → List (List EventValue) → Type 0
EachReads [] [] = Unit {0}
EachReads (file ∷ files) (events ∷ lists) =
    Reads file events × AreSequenced events × EachReads files lists
EachReads _ _ = ⊥

-- the events of the lists of all files
abbrev pub joined : List (List EventValue) → List EventValue
joined lists = flat_map (λ events. events) lists

-- the bytes of a file spell these events, each of them with a number
pub record SpellsNumbered (b : List ℕ) (events : List EventValue) : Type 0 where
  pub reads : Reads b events
  pub numbered : AreSequenced events
  pub are : AreEvents events

-- the batch has just the events that a file's bytes spell, each of them with a number, and in their
-- order unless they are sorted
pub record SpellsBatch (b : List ℕ) (is_sorted : Bool) (batch : List EventValue) : Type 0 where
  pub events : List EventValue
  pub spells : SpellsNumbered b events
  pub same : IsPermutation events batch
  pub in_order : is_sorted ≡ false → batch ≡ events

-- the files all spell events with numbers, and these are they, one file behind the other
abbrev pub SpellAll : List (List ℕ) → List EventValue → Type 0
SpellAll files events =
    (lists : List (List EventValue)) × EachReads files lists × (events ≡ joined lists)

-- the event at i is the first of a file without a number, and this is why
pub record IsUnnumberedAt (events : List EventValue) (i : ℕ) (why : Fault) : Type 0 where
  pub event : EventValue
  pub at : slice_get events i ≡ Some event
  pub without : number_of event ≡ None
  pub reason : why ≡ sequence_fault event
  pub first : AreSequenced (take i events)

-- the first of a file's events without a number, and why it has none
abbrev pub IsUnnumbered : List EventValue → ReportFault → Type 0
IsUnnumbered events fault.OutOfMemory = ⊥
IsUnnumbered events (fault.Read why) = ⊥
IsUnnumbered events (fault.Event i why) = IsUnnumberedAt events i why

-- the first fault of a file: it spells no events, or one of its events has no number
abbrev pub IsFault : List ℕ → ReportFault → Type 0
IsFault file fault.OutOfMemory = ⊥
IsFault file (fault.Read why) = Refuses file why
IsFault file (fault.Event i why) =
    (events : List EventValue) × Reads file events × IsUnnumberedAt events i why

-- there is a file, and the first is not larger than what is read of a file
abbrev pub FirstFits : List (List ℕ) → Type 0
FirstFits [] = ⊥
FirstFits (file ∷ files) = length file ≤ max_input

-- the first file at fault, and its first fault
pub record IsAtFault (files : List (List ℕ)) (index : ℕ) (why : ReportFault) : Type 0 where
  pub file : List ℕ
  pub at : slice_get files index ≡ Some file
  pub is_fault : IsFault file why
  pub before : (lists : List (List EventValue)) × EachReads (take index files) lists

-- the refusal of files: memory ran out, or this is the first file at fault
abbrev pub IsRefusal : List (List ℕ) → Refused → Type 0
IsRefusal files refused =
    (refused.fault ≡ fault.OutOfMemory) ⊎ IsAtFault files refused.file refused.fault
