-- What holds of answers.
use Rattle.std.specs.Prelude.{◌≡◌, ℕ, List, [], ◌&&◌, true, false, Some, Contains}
use Rattle.std.specs.List.{list_any}
use Rattle.std.specs.Ordering.{is_eq, is_lt}
use Rattle.attributes.specs.Event.{EventValue}
use Rattle.inbox.specs.KeyOrder.{key_cmp}
use Rattle.inbox.specs.Ordered.{has}
use Rattle.inbox.specs.Sets.{AreEvents, set_of}
use Rattle.inbox.specs.Shown.{shown}
use Rattle.views.specs.Latest.{is_of, latest_of, number_cmp}
use Rattle.views.specs.Question.{AreLines, IsAnswer, IsTrueOf, query_of}
use Rattle.views.specs.declared.query.Query.{Query}
use Rattle.views.specs.declared.query.Answer.{Answer}

-- `latest` gives e: one of the entity's events, of which none is greater by number, then id
pub record IsLatest (events : List EventValue)
    (entity : List ℕ × List ℕ) (e : EventValue) : Type 0 where
  pub is_there : Contains events e
  pub of_entity : is_of entity e ≡ true
  pub greatest : list_any (λ f. is_of entity f && is_lt (number_cmp e f)) events ≡ false

-- what the question `latest` finds is the latest
abbrev pub LatestAreGreatest : Type 0
LatestAreGreatest =
    (events : List EventValue) (entity : List ℕ × List ℕ) (e : EventValue)
    → latest_of events entity ≡ Some e → IsLatest events entity e

-- the question `latest` finds an event for each entity of which there is one
abbrev pub EntitiesHaveLatest : Type 0
EntitiesHaveLatest =
    (events : List EventValue) (entity : List ℕ × List ℕ) (e : EventValue)
    → Contains events e → is_of entity e ≡ true
    → (l : EventValue) × (latest_of events entity ≡ Some l)

-- of a set's shown events no two of one entity have one number and id: `latest` never has a tie
abbrev pub NoneTie : Type 0
NoneTie =
    (A : List EventValue) (entity : List ℕ × List ℕ) (e f : EventValue) → AreEvents A
    → Contains (shown (set_of A)) e → Contains (shown (set_of A)) f
    → is_of entity e ≡ true → is_of entity f ≡ true → is_eq (number_cmp e f) ≡ true → e ≡ f

-- the lines of a true answer to a question answer it
abbrev pub LinesAreAnswers : Type 0
LinesAreAnswers =
    (query : Query) (E : List EventValue) (a : Answer) (text : List ℕ)
    → query_of a ≡ query → IsTrueOf E a → AreLines a text → IsAnswer query E text

-- where a question is answered without a line, a true answer to it has none
abbrev pub SilenceIsAnswer : Type 0
SilenceIsAnswer =
    (query : Query) (E : List EventValue) (a : Answer)
    → query_of a ≡ query → IsTrueOf E a → IsAnswer query E [] → AreLines a []

-- a question has one text over a set, the lines of its answer
abbrev pub AnswersAreOne : Type 0
AnswersAreOne =
    (query : Query) (E : List EventValue) (text other : List ℕ)
    → IsAnswer query E text → IsAnswer query E other → text ≡ other

-- a question has one text over sets of two lists with the same events, in any order and repetition
abbrev pub AnswersAreAlike : Type 0
AnswersAreAlike =
    (query : Query) (A B : List EventValue) (text other : List ℕ) → AreEvents A → AreEvents B
    → ((e : EventValue) → has key_cmp A e ≡ has key_cmp B e)
    → IsAnswer query (set_of A) text → IsAnswer query (set_of B) other → text ≡ other
