-- The set of the events of files, one file more at a time.
use Rattle.std.proofs.Common.{◌≡◌, List, [], ◌∷◌, ◌++◌, refl, sym, subst, ap, ◌∙◌, ℕ}
use Rattle.std.specs.Prelude.{Bool, ◌||◌}
use Rattle.std.specs.List.{list_any}
use Rattle.std.specs.Ordering.{is_eq}
use Rattle.std.proofs.lemmas.List.Folds.{list_any-append}
use Rattle.std.proofs.lemmas.List.Elements.{All-from_recursion, recursion_from_All}
use Rattle.std.proofs.lemmas.List.Sorted.{All-permutation, list_any-IsPermutation}
use Rattle.std.specs.List.Sorted.{IsPermutation}
use Rattle.attributes.specs.Event.{EventValue}
use Rattle.attributes.specs.Fault.{IsEvent}
use Rattle.event_json.specs.Reading.{Reads}
use Rattle.inbox.specs.KeyOrder.{key_cmp}
use Rattle.inbox.specs.Laws.{SetLaws}
use Rattle.inbox.specs.Ordered.{add_all, has}
use Rattle.inbox.specs.Sets.{AreEvents, set_of}
use Rattle.std.specs.BTreeSet.{insert_key}
use Rattle.views.specs.Question.{IsAnswer}
use Rattle.views.specs.declared.query.Query.{Query}
use Rattle.event_files.specs.Files.{AreSequenced, EachReads, FirstFits, joined}
use Rattle.event_files.proofs.FileLemmas.{AreEvents-append, EachReads-more, joined-more}
use Rattle.file_reports.specs.steps.Intake.{GainsSet}
use Rattle.file_reports.specs.Reports.{FirstFitsIfAny, IsReportWith, KeepsFiles}

-- items are added one list after the other
add_all-append : (E xs ys : List EventValue) → add_all key_cmp E (xs ++ ys) ≡ add_all key_cmp (add_all key_cmp E xs) ys
add_all-append E [] ys = refl
add_all-append E (x ∷ xs) ys = add_all-append (insert_key key_cmp E x) xs ys

-- a file more was taken
pub KeepsFiles-more : (files : List (List ℕ)) (file : List ℕ) (L : List EventValue) (old new : List EventValue) → KeepsFiles files old
    → Reads file L → AreSequenced L → AreEvents L → GainsSet L old new → KeepsFiles (files ++ file ∷ []) new
KeepsFiles-more files file L old new h r s are added = (
  h.0 ++ L ∷ [],
  EachReads-more files h.0 file L h.1 r s,
  subst AreEvents (sym (joined-more h.0 L)) (AreEvents-append (joined h.0) L h.2 are),
  added ∙ ap (λ E. add_all key_cmp E L) h.3 ∙ sym (add_all-append [] (joined h.0) L) ∙ ap (λ l. set_of l) (sym (joined-more h.0 L)),
)

-- an answer about a set that got a list more
pub answered_with : (query : Query) (files : List (List ℕ)) (held old new : List EventValue) (text : List ℕ) → GainsSet held old new
    → IsAnswer query (set_of new) text → KeepsFiles files old → IsReportWith query held files text
answered_with query files held old new text gained answer h = (
  h.0,
  h.1,
  subst (λ E. IsAnswer query E text) (gained ∙ ap (λ E. add_all key_cmp E held) h.3 ∙ sym (add_all-append [] (joined h.0) held)) answer,
)

AreEvents-permutation : (L M : List EventValue) → IsPermutation L M → AreEvents L → AreEvents M
AreEvents-permutation L M p are = recursion_from_All IsEvent M (All-permutation IsEvent L M p (All-from_recursion IsEvent L are))

has-permutation : (J L M : List EventValue) (e : EventValue) → IsPermutation L M → has key_cmp (J ++ M) e ≡ has key_cmp (J ++ L) e
has-permutation J L M e p =
    let test : EventValue → Bool = λ y. is_eq (key_cmp e y) in
    list_any-append test J M ∙ ap (λ b. list_any test J || b) (sym (list_any-IsPermutation test L M p)) ∙ sym (list_any-append test J L)

-- what was added in another order was added
pub GainsSet-permutation : SetLaws → (files : List (List ℕ)) (L M : List EventValue) (old new : List EventValue) → KeepsFiles files old
    → AreEvents L → IsPermutation L M → GainsSet M old new → GainsSet L old new
GainsSet-permutation laws files L M old new h are p added =
    let J : List EventValue = joined h.0 in
    let events_with : (X : List EventValue) → add_all key_cmp (set_of J) X ≡ set_of (J ++ X) = λ X. sym (add_all-append [] J X) in
    added ∙ ap (λ E. add_all key_cmp E M) h.3 ∙ events_with M
    ∙ laws.same (J ++ M) (J ++ L) (AreEvents-append J M h.2 (AreEvents-permutation L M p are)) (AreEvents-append J L h.2 are)
    (λ e. has-permutation J L M e p)
    ∙ sym (events_with L) ∙ ap (λ E. add_all key_cmp E L) (sym h.3)

pub if_any : (files : List (List ℕ)) → FirstFits files → FirstFitsIfAny files
if_any [] h = tt
if_any (f ∷ fs) h = h
