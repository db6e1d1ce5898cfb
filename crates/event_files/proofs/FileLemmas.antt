-- Files that spell events with numbers, one more at a time.
use Rattle.std.proofs.Common.{◌≡◌, ◌≤◌, ℕ, zero, suc, List, [], ◌∷◌, ◌++◌, true, None, length, refl, sym, subst, ap, ap₂, ◌∙◌, ◌≢◌, ◌+◌, take, inl, inr, append_assoc, append-nil, arith}
use Rattle.std.proofs.Math.Seq.{take-append_seam}
use Rattle.std.specs.Prelude.{◌&&◌, Some, is_some, slice_get}
use Rattle.std.specs.List.{list_all}
use Rattle.std.proofs.lemmas.List.{flat_map_more}
use Rattle.std.proofs.lemmas.List.Folds.{list_all-append}
use Rattle.attributes.specs.Event.{EventValue}
use Rattle.attributes.specs.Fault.{IsEvent}
use Rattle.event_json.specs.Reading.{Reads, max_input}
use Rattle.inbox.specs.Sets.{AreEvents}
use Rattle.attributes.specs.Sequence.{number_of, sequence_fault}
use Rattle.attributes.specs.declared.fault.Fault.{Fault}
use Rattle.event_files.proofs.ListLemmas.{take_next}
use Rattle.event_files.specs.declared.refusal.ReportFault.{ReportFault}
use Rattle.event_files.specs.declared.refusal.ReportFault.TheVariants.{OutOfMemory, Read, Event}
use Rattle.event_files.specs.Files.{AreSequenced, EachReads, FirstFits, IsFault, IsRefusal, IsUnnumberedAt, SpellAll, joined}

pub EachReads-more : (files : List (List ℕ)) (lists : List (List EventValue)) (file : List ℕ) (events : List EventValue)
    → EachReads files lists → Reads file events → AreSequenced events → EachReads (files ++ file ∷ []) (lists ++ events ∷ [])
EachReads-more [] [] file events h r s = (r, s, tt)
EachReads-more [] (l ∷ ls) file events h r s = absurd h
EachReads-more (f ∷ fs) [] file events h r s = absurd h
EachReads-more (f ∷ fs) (l ∷ ls) file events h r s = (h.0, h.1, EachReads-more fs ls file events h.2 r s)

pub joined-more : (lists : List (List EventValue)) (events : List EventValue) → joined (lists ++ events ∷ []) ≡ joined lists ++ events
joined-more lists events = sym (flat_map_more (λ (l : List EventValue). l) [] lists events)

pub AreEvents-append : (xs ys : List EventValue) → AreEvents xs → AreEvents ys → AreEvents (xs ++ ys)
AreEvents-append [] ys h k = k
AreEvents-append (x ∷ xs) ys h k = (h.0, AreEvents-append xs ys h.1 k)

-- a file more was read
pub SpellAll-more : (files : List (List ℕ)) (file : List ℕ) (L : List EventValue) (old new : List EventValue) → SpellAll files old
    → Reads file L → AreSequenced L → new ≡ old ++ L → SpellAll (files ++ file ∷ []) new
SpellAll-more files file L old new h r s added =
    (h.0 ++ L ∷ [], EachReads-more files h.0 file L h.1 r s, added ∙ ap (λ l. l ++ L) h.2 ∙ sym (joined-more h.0 L))

-- an event more has a number
pub AreSequenced-more : (events : List EventValue) (i : ℕ) (e : EventValue) (n : ℕ) → AreSequenced (take i events)
    → slice_get events i ≡ Some e → number_of e ≡ Some n → AreSequenced (take (i + 1) events)
AreSequenced-more events i e n before at numbered =
    let p = λ (x : EventValue). is_some (number_of x) in
    ap (list_all p) (take_next events i e at) ∙ list_all-append p (take i events) (e ∷ [])
    ∙ ap (λ b. b && list_all p (e ∷ [])) before ∙ ap (λ o. is_some o && true) numbered

-- the refusal of the first file at fault
pub refusal_by : (files : List (List ℕ)) (index : ℕ) (file : List ℕ) (why : ReportFault) (lists : List (List EventValue))
    → slice_get files index ≡ Some file → (why ≢ OutOfMemory → IsFault file why) → EachReads (take index files) lists
    → IsRefusal files (record { file = index; fault = why })
refusal_by files index file OutOfMemory lists at faulty before = inl refl
refusal_by files index file (Read why) lists at faulty before =
    inr (record { file = file; at = at; is_fault = faulty (λ e. cc); before = (lists, before) })
refusal_by files index file (Event i why) lists at faulty before =
    inr (record { file = file; at = at; is_fault = faulty (λ e. cc); before = (lists, before) })

-- ---- events that are gone through once

slice_get-seam : {X : Type 0} (xs : List X) (y : X) (ys : List X) → slice_get (xs ++ y ∷ ys) (length xs) ≡ Some y
slice_get-seam [] y ys = refl
slice_get-seam (x ∷ xs) y ys = slice_get-seam xs y ys

-- those that are done, the next, and the rest are all of them
module _ (done rest left events : List EventValue) (e : EventValue) (next : rest ≡ e ∷ left) (whole : done ++ rest ≡ events) (numbered : AreSequenced done) where
  all_of : done ++ e ∷ left ≡ events
  all_of = ap (λ (l : List EventValue). done ++ l) (sym next) ∙ whole

  pub whole_more : (more : List EventValue) (f : EventValue) → more ≡ done ++ f ∷ [] → f ≡ e → more ++ left ≡ events
  whole_more more f pushed same =
      ap (λ (l : List EventValue). l ++ left) (pushed ∙ ap (λ (x : EventValue). done ++ x ∷ []) same)
      ∙ (append_assoc done (e ∷ []) left ∙ all_of)

  pub numbered_more : (more : List EventValue) (f : EventValue) (n : ℕ) → more ≡ done ++ f ∷ [] → f ≡ e → number_of e ≡ Some n → AreSequenced more
  numbered_more more f n pushed same has =
      let p = λ (x : EventValue). is_some (number_of x) in
      ap (list_all p) (pushed ∙ ap (λ (x : EventValue). done ++ x ∷ []) same)
      ∙ (list_all-append p done (e ∷ []) ∙ (ap (λ b. b && list_all p (e ∷ [])) numbered ∙ ap (λ o. is_some o && true) has))

  pub events_more : (more : List EventValue) (f : EventValue) → more ≡ done ++ f ∷ [] → AreEvents done → IsEvent f → AreEvents more
  events_more more f pushed are is = subst AreEvents (sym pushed) (AreEvents-append done (f ∷ []) are (is, tt))

  pub unnumbered_here : (i : ℕ) (why : Fault) → i ≡ length done → number_of e ≡ None → why ≡ sequence_fault e → IsUnnumberedAt events i why
  unnumbered_here i why at none reason = record {
    event = e;
    at = ap₂ (λ (l : List EventValue) (n : ℕ). slice_get l n) (sym all_of) at ∙ slice_get-seam done e left;
    without = none;
    reason = reason;
    first = ap (list_all (λ (x : EventValue). is_some (number_of x))) (ap₂ (λ (l : List EventValue) (n : ℕ). take n l) (sym all_of) at ∙ take-append_seam done (e ∷ left)) ∙ numbered;
  }

-- files that are done, the next one, and the rest are all of them
module _ (done rest left files : List (List ℕ)) (b : List ℕ) (i : ℕ) (next : rest ≡ b ∷ left) (whole : done ++ rest ≡ files) (count : i ≡ length done) where
  files_of : done ++ b ∷ left ≡ files
  files_of = ap (λ (l : List (List ℕ)). done ++ l) (sym next) ∙ whole

  pub file_there : slice_get files i ≡ Some b
  file_there = ap₂ (λ (l : List (List ℕ)) (n : ℕ). slice_get l n) (sym files_of) count ∙ slice_get-seam done b left

  pub files_before : take i files ≡ done
  files_before = ap₂ (λ (l : List (List ℕ)) (n : ℕ). take n l) (sym files_of) count ∙ take-append_seam done (b ∷ left)

  pub files_on : (done ++ b ∷ []) ++ left ≡ files
  files_on = append_assoc done (b ∷ []) left ∙ files_of

pub length_more : (xs : List (List ℕ)) (y : List ℕ) → length (xs ++ y ∷ []) ≡ length xs + 1
length_more [] y = refl
length_more (x ∷ xs) y = let h = length_more xs y in omega (arith, h)

-- where nothing is left, those that are done are all of them
pub no_rest : (done rest files : List (List ℕ)) → length rest ≡ 0 → done ++ rest ≡ files → done ≡ files
no_rest done [] files none whole = sym (append-nil done) ∙ whole
no_rest done (b ∷ left) files none whole = absurd (omega (arith, none))

-- ---- the first file is not too large

pub first_fits : (files : List (List ℕ)) (i : ℕ) (file : List ℕ) (lists : List (List EventValue)) → slice_get files i ≡ Some file → EachReads (take i files) lists → length file ≤ max_input → FirstFits files
first_fits [] i file lists at before fits = absurd (let none : None ≡ Some file = at in cc)
first_fits (f ∷ fs) zero file lists at before fits = let same : f ≡ file = cc in subst (λ x. length x ≤ max_input) (sym same) fits
first_fits (f ∷ fs) (suc i) file [] at before fits = absurd before
first_fits (f ∷ fs) (suc i) file (l ∷ ls) at before fits = before.0.is_text.fits
