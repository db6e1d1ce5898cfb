-- What a text tells, where it is told again as it is.
use Rattle.std.proofs.Common.{◌≡◌, ℕ, List, Bool, true, false, not, bytes_eq, Option, Some, None, refl, sym, ap, ◌∙◌, subst, true≢false}
use Rattle.std.proofs.lemmas.Slice.Eq.{bytes_eq-Decides}
use Rattle.attributes.specs.Event.{EventValue, text}
use Rattle.attributes.specs.Fault.{IsEvent}
use Rattle.inbox.specs.Sets.{AreEvents, set_of}
use Rattle.inbox.proofs.OrderLemmas.{key_cmp_total}
use Rattle.inbox.proofs.SetLemmas.{sorted-in_order}
use Rattle.views.specs.Law.{AnswersAreOne}
use Rattle.views.specs.Question.{IsAnswer}
use Rattle.views.specs.declared.query.Query.{Query}
use Rattle.parts.specs.Told.{IsHeld, IsOfEvents, TellsSet, events_told}
use Rattle.parts.proofs.ToldLemmas.{again, set_again}

pub none_told : {X : Type 0} {x : X} → ◌≡◌ {A = Option X} None (Some x) → ⊥
none_told h = cc

was_true : (b : Bool) → false ≡ not b → b ≡ true
was_true true h = refl
was_true false h = h

was_false : (b : Bool) → true ≡ not b → b ≡ false
was_false true h = h
was_false false h = refl

pub equal_texts : (x y : List ℕ) → false ≡ not (bytes_eq x y) → x ≡ y
equal_texts x y test = (bytes_eq-Decides x y).0 (was_true (bytes_eq x y) test)

pub unequal_texts : (x y : List ℕ) → true ≡ not (bytes_eq x y) → x ≡ y → ⊥
unequal_texts x y test same = true≢false (sym ((bytes_eq-Decides x y).1 same) ∙ was_false (bytes_eq x y) test)

some_is : (x y : List EventValue) → ◌≡◌ {A = Option (List EventValue)} (Some x) (Some y) → x ≡ y
some_is x y h = cc

-- a text that isn't told again as it is answers the question over no set
pub differs : ((e f : EventValue) → IsEvent e → IsEvent f → text e ≡ text f → e ≡ f) → AnswersAreOne
    → (q : Query) → IsOfEvents q → (E : List EventValue) → IsHeld E → (t : List ℕ) (list F : List EventValue) (printed lent : List ℕ)
    → ◌≡◌ {A = Option (List EventValue)} (Some list) (Some (events_told q E)) → F ≡ set_of list → IsAnswer q F printed → lent ≡ printed → IsAnswer q E t
    → true ≡ not (bytes_eq lent t) → ⊥
differs tells one q is E held t list F printed lent own set answer same mine test =
    let over = subst (λ X. IsAnswer q X printed) (set ∙ ap set_of (some_is list (events_told q E) own)) answer in
    unequal_texts lent t test (same ∙ one q E printed t (again tells q is E held printed over) mine)

-- one that is tells its events
pub told_there : ((e f : EventValue) → IsEvent e → IsEvent f → text e ≡ text f → e ≡ f)
    → (q : Query) (t : List ℕ) (list : List EventValue) (o : Option (List EventValue)) (F : List EventValue) → AreEvents (set_of list) → o ≡ Some list
    → ((E : List EventValue) → IsHeld E → IsAnswer q E t → o ≡ Some (events_told q E)) → F ≡ set_of list → IsAnswer q F t → TellsSet q t F
told_there tells q t list o F events some own set answer =
    let twice : set_of (set_of list) ≡ set_of list = set_again tells (set_of list) events (sorted-in_order key_cmp_total list) in (
      set_of list,
      record {
        are_events = events;
        answer = subst (λ X. IsAnswer q X t) (set ∙ sym twice) answer;
        own = λ E held h. ap set_of (some_is list (events_told q E) (sym some ∙ own E held h));
      },
      set ∙ sym twice,
    )
