-- The files of parts, one more at a time.
use Rattle.std.proofs.Common.{◌≡◌, ◌<◌, ◌+◌, ◌++◌, ◌∷◌, [], ℕ, List, Option, None, Some, ap, ap₂, append-nil, append_assoc, arith, false, get_or, inl, inr, length, subst, sym, true, ◌∙◌}
use Rattle.std.proofs.lemmas.List.FromFn.{map-range_with_len_more}
use Rattle.std.proofs.lemmas.Option.{get_or_from_slice_get}
use Rattle.attributes.specs.Event.{EventValue}
use Rattle.command_words.specs.declared.request.Split.{Split}
use Rattle.parts.specs.Part.{part, part_of}
use Rattle.site_commands.specs.Outputs.{GrewBy, Output}
use Rattle.site_commands.specs.Splits.{EndsParts, file_of, files_to, part_counts, part_file, part_files, part_name}
use Rattle.site_commands.specs.declared.ending.Ending.{Ending}
use Rattle.site_commands.specs.declared.ending.Ending.TheVariants.{Answer, Told, Pages, Findings, Help, Faulty, Refused, Uncombined, Unsaved, NoMemory}
use Rattle.site_commands.specs.declared.split.SplitFault.{SplitFault}
use Rattle.site_commands.specs.declared.split.SplitFault.TheVariants as fault
use Rattle.site_commands.specs.steps.Splits.{AreAllParts, IsUnsavedEnding, RefusesFile, StopsParts}

-- ---- outputs

pub grew_none : (a : Option (List Output)) → GrewBy a a []
grew_none None = tt
grew_none (Some l) = sym (append-nil l)

pub grew_on : (a b c : Option (List Output)) (x y : List Output) → GrewBy a b x → GrewBy b c y → GrewBy a c (x ++ y)
grew_on None b c x y h k = tt
grew_on (Some l) None c x y h k = absurd h
grew_on (Some l) (Some m) None x y h k = absurd k
grew_on (Some l) (Some m) (Some n) x y h k = k ∙ ap (λ (z : List Output). z ++ y) h ∙ append_assoc l x y

-- ---- parts

-- the events of a part, where these are all parts
is_part : (asked : Split) (events : List EventValue) (parts : List (List EventValue)) (i : ℕ) (p : List EventValue) → AreAllParts asked.count events parts
    → i < length parts → p ≡ get_or parts i p → p ≡ part (part_of asked.count) i events
is_part asked events parts i p are below at = at ∙ get_or_from_slice_get parts i _ p (are.each i (subst (λ (n : ℕ). i < n) are.len below))

-- a part more is counted
pub count_more : (asked : Split) (events : List EventValue) (parts : List (List EventValue)) (i : ℕ) (p : List EventValue) (rows : List (List ℕ × ℕ)) (name : List ℕ) (n : ℕ)
    → AreAllParts asked.count events parts → i < length parts → p ≡ get_or parts i p
    → rows ≡ part_counts asked events i → name ≡ part_name asked.prefix i → n ≡ length p
    → rows ++ (name, n) ∷ [] ≡ part_counts asked events (i + 1)
count_more asked events parts i p rows name n are below at rest is_name count =
    ap₂ (λ (r : List (List ℕ × ℕ)) (x : List ℕ × ℕ). r ++ x ∷ []) rest
    (ap₂ (λ (a : List ℕ) (b : ℕ). (a, b)) is_name (count ∙ ap length (is_part asked events parts i p are below at)))
    ∙ sym (map-range_with_len_more (λ (k : ℕ). (part_name asked.prefix k, length (part (part_of asked.count) k events))) 0 i i (omega arith))

-- a file more is saved
pub file_more : (asked : Split) (events : List EventValue) (parts : List (List EventValue)) (i : ℕ) (p : List EventValue) (a b c : Option (List Output))
    → AreAllParts asked.count events parts → i < length parts → p ≡ get_or parts i p
    → GrewBy a b (part_files asked events i) → GrewBy b c (file_of asked.prefix i p true ∷ []) → GrewBy a c (part_files asked events (i + 1))
file_more asked events parts i p a b c are below at rest more =
    let file = subst (λ (z : List EventValue). GrewBy b c (file_of asked.prefix i z true ∷ [])) (is_part asked events parts i p are below at) more in
    subst (GrewBy a c) (sym (map-range_with_len_more (part_file asked events true) 0 i i (omega arith)))
    (grew_on a b c (part_files asked events i) (part_file asked events true i ∷ []) rest file)

-- the next file isn't saved
next_refused : (asked : Split) (events : List EventValue) (parts : List (List EventValue)) (i : ℕ) (p : List EventValue) (a b c : Option (List Output))
    → AreAllParts asked.count events parts → i < length parts → p ≡ get_or parts i p
    → GrewBy a b (part_files asked events i) → GrewBy b c (file_of asked.prefix i p false ∷ []) → GrewBy a c (files_to asked events i)
next_refused asked events parts i p a b c are below at rest more =
    let file = subst (λ (z : List EventValue). GrewBy b c (file_of asked.prefix i z false ∷ [])) (is_part asked events parts i p are below at) more in
    grew_on a b c (part_files asked events i) (part_file asked events false i ∷ []) rest file

pub stopped : (asked : Split) (events : List EventValue) (parts : List (List EventValue)) (i : ℕ) (p : List EventValue) (a b c : Option (List Output)) (f : SplitFault)
    → AreAllParts asked.count events parts → i < length parts → p ≡ get_or parts i p
    → GrewBy a b (part_files asked events i) → RefusesFile asked.prefix i p b c f → StopsParts asked events a c f
stopped asked events parts i p a b c fault.OutOfMemory are below at rest (inl none) =
    (i, subst (λ (n : ℕ). i < n) are.len below, inl (subst (GrewBy a c) (append-nil (part_files asked events i)) (grew_on a b c (part_files asked events i) [] rest none)))
stopped asked events parts i p a b c fault.OutOfMemory are below at rest (inr one) =
    (i, subst (λ (n : ℕ). i < n) are.len below, inr (next_refused asked events parts i p a b c are below at rest one))
stopped asked events parts i p a b c (fault.Unsaved k) are below at rest h =
    subst (λ (n : ℕ). (n < asked.count) × GrewBy a c (files_to asked events n)) (sym h.0)
    (subst (λ (n : ℕ). i < n) are.len below, next_refused asked events parts i p a b c are below at rest h.1)

-- ---- endings

-- the file of a part wasn't saved
pub unsaved_ending : (asked : Split) (events : List EventValue) (a b : Option (List Output)) (i : ℕ) (e : Ending)
    → StopsParts asked events a b (fault.Unsaved i) → IsUnsavedEnding asked i e → EndsParts asked events a b e
unsaved_ending asked events a b i (Answer text) h line = absurd line
unsaved_ending asked events a b i (Told text made) h line = absurd line
unsaved_ending asked events a b i (Pages pages) h line = absurd line
unsaved_ending asked events a b i (Findings text) h line = absurd line
unsaved_ending asked events a b i (Help text) h line = absurd line
unsaved_ending asked events a b i (Faulty text) h line = absurd line
unsaved_ending asked events a b i (Refused text hint) h line = absurd line
unsaved_ending asked events a b i (Uncombined text hint) h line = absurd line
unsaved_ending asked events a b i (Unsaved text hint) h line = (i, h.0, line, h.1)
unsaved_ending asked events a b i NoMemory h line = (i, h.0, inr h.1)
