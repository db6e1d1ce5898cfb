-- What a command makes of the events that a database holds.
use Rattle.std.proofs.Common.{◌≡◌, ◌∙◌, ℕ, List, [], true, false, Ok, Err, Result, MatchResult, IfErr, IfOk, ap, inl, inr, subst, sym}
use Rattle.std.specs.Result.{OnOk}
use Rattle.std.proofs.lemmas.Result.{IfErr-at_err, IfOk-at_ok}
use Rattle.sqlite.specs.Effect.{Database}
use Rattle.sqlite.specs.State.{State, HasCleanDisk}
use Rattle.attributes.specs.Event.{EventValue}
use Rattle.inbox.specs.KeyOrder.{key_cmp}
use Rattle.inbox.specs.Ordered.{append_new}
use Rattle.database_layout.specs.Layout.{has_inbox}
use Rattle.inbox_table.specs.Calls.{has_both}
use Rattle.outbox.specs.Call.{Leaves}
use Rattle.database_commands.specs.Effect.{LookEffect, PageEffect}
use Rattle.databases.specs.Held.{Holds, IsNoInbox, IsUntold, ShowsEvents}
use Rattle.databases.specs.declared.fault.CommandFault.{CommandFault}
use Rattle.databases.specs.declared.fault.CommandFault.TheVariants as command
use Rattle.database_commands.specs.steps.Made.{ContentsEffect, IsMadeOf}
use Rattle.databases.proofs.HeldLemmas.{at_okay, held_once}

-- what is said of all that was made is said of what was made
pub made_says : {A B : Type 0} (given : Result A CommandFault) (made : Result B CommandFault) (Is : A → B → Type 0) (Says : B → Type 0)
    → ((a : A) (b : B) → Is a b → Says b) → IsMadeOf given Is made → IfOk made Says
made_says given (Ok b) Is Says to it = to it.of.0 b it.of.2
made_says given (Err f) Is Says to it = tt

-- ---- how it is made

pub made_ok : {A B : Type 0} (given : Result A CommandFault) (Is : A → B → Type 0) (a : A) (b : B) → given ≡ Ok a → Is a b → IsMadeOf given Is (Ok b)
made_ok {A} given Is a b is to = record {
  of = (a, is, to);
  refused = λ f bad. absurd (let e : ◌≡◌ {A = Result A CommandFault} (Ok a) (Err f) = sym is ∙ bad in cc);
  why = tt;
}

-- memory was wanted
pub made_want : {A B : Type 0} (given : Result A CommandFault) (Is : A → B → Type 0) (a : A) (f : CommandFault) → given ≡ Ok a → f ≡ command.OutOfMemory → IsMadeOf given Is (Err f)
made_want {A} given Is a f is want = record {
  of = tt;
  refused = λ g bad. absurd (let e : ◌≡◌ {A = Result A CommandFault} (Ok a) (Err g) = sym is ∙ bad in cc);
  why = inr want;
}

-- it wasn't to be had
pub made_none : {A B : Type 0} (given : Result A CommandFault) (Is : A → B → Type 0) (f : CommandFault) → given ≡ Err f → IsMadeOf given Is (Err f)
made_none {A} given Is f is = record {
  of = tt;
  refused = λ g same. let e : ◌≡◌ {A = Result A CommandFault} (Err f) (Err g) = sym is ∙ same in let at : f ≡ g = cc in ap Err at;
  why = inl is;
}

-- nor was what is made of it first
pub made_over : {A B C : Type 0} (given : Result A CommandFault) (mid : Result B CommandFault) (Is : A → B → Type 0) (Js : A → C → Type 0) (f : CommandFault)
    → IsMadeOf given Is mid → mid ≡ Err f → IsMadeOf given Js (Err f)
made_over {A} {B} given mid Is Js f it is =
    let at : IsMadeOf given Is (Err f) = subst (IsMadeOf given Is) is it in
    record {
      of = tt;
      refused = λ g same. let e : ◌≡◌ {A = Result B CommandFault} (Err f) (Err g) = at.refused g same in let here : f ≡ g = cc in ap Err here;
      why = at.why;
    }

-- what was made was made of what was shown
made_shows : {A B : Type 0} (given : Result A CommandFault) (made : Result B CommandFault) (Is : A → B → Type 0) (Shown : A → Type 0) (Says : B → Type 0)
    → IfOk given Shown → ((a : A) (b : B) → Is a b → Shown a → Says b) → IsMadeOf given Is made → IfOk made Says
made_shows given (Ok b) Is Shown Says shown to it = to it.of.0 b it.of.2 (IfOk-at_ok Shown it.of.1 shown)
made_shows given (Err f) Is Shown Says shown to it = tt

-- where it was made, what it is made of was to be had
made_on : {A B : Type 0} (given : Result A CommandFault) (made : Result B CommandFault) (Is : A → B → Type 0) (P : Type 0) → OnOk given P → IsMadeOf given Is made → OnOk made P
made_on given (Ok b) Is P p it = at_okay given it.of.0 P it.of.1 p
made_on given (Err f) Is P p it = tt

-- what is foreign is what was given, since want of memory isn't
made_foreign : {A B : Type 0} (given : Result A CommandFault) (made : Result B CommandFault) (Is : A → B → Type 0) (P : Type 0) → IfErr given (λ f. f ≡ command.Foreign → P) → IsMadeOf given Is made
    → IfErr made (λ f. f ≡ command.Foreign → P)
made_foreign given (Ok b) Is P p it = tt
made_foreign given (Err f) Is P p it = λ is. elim it.why [
  | inl same ↦ IfErr-at_err (λ e. e ≡ command.Foreign → P) same p is
  | inr memory ↦ absurd (let e : command.OutOfMemory ≡ command.Foreign = sym memory ∙ is in cc)
]

-- it is refused as what was given is, or for want of memory
made_untold : {A B : Type 0} (given : Result A CommandFault) (made : Result B CommandFault) (Is : A → B → Type 0) → IfErr given IsUntold → IsMadeOf given Is made → IfErr made IsUntold
made_untold given (Ok b) Is untold it = tt
made_untold given (Err f) Is untold it = elim it.why [
  | inl same ↦ IfErr-at_err IsUntold same untold
  | inr memory ↦ inl memory
]

-- events that a database holds stand there once each
pub once_shown : (db : Database) (es held : List EventValue) → ShowsEvents db es → Holds db held → append_new key_cmp [] es ≡ held
once_shown db es held shows holds = ap (append_new key_cmp []) (shows held holds) ∙ held_once db held holds

-- a command that only looks
pub look_made : {B : Type 0} (old new : State) (events : Result (List EventValue) CommandFault) (made : Result B CommandFault) (Is : List EventValue → B → Type 0) (Shows : Database → B → Type 0)
    → (HasCleanDisk new → IfOk events (ShowsEvents old.now)) → Leaves old new → (has_inbox old.now.schema ≡ false → new.now ≡ old.now)
    → IfErr events (λ f. f ≡ command.Foreign → HasCleanDisk new → IsNoInbox old.now) → (has_both old.now.schema ≡ true → events ≡ Err command.Foreign) → IfErr events IsUntold
    → ((es : List EventValue) (b : B) → Is es b → ShowsEvents old.now es → Shows old.now b) → IsMadeOf events Is made → LookEffect Shows made old new
look_made old new events made Is Shows shown left without foreign both untold to it = record {
  shown = λ clean. made_shows events made Is (ShowsEvents old.now) (Shows old.now) (shown clean) to it;
  left = left;
  without = without;
  foreign = made_foreign events made Is (HasCleanDisk new → IsNoInbox old.now) foreign it;
  both = λ there. it.refused command.Foreign (both there);
  fault = made_untold events made Is untold it;
}

-- and one that makes the table where there is none
pub page_made : (old new : State) (events : Result (List EventValue) CommandFault) (made : Result (List ℕ) CommandFault) (Is : List EventValue → List ℕ → Type 0) (Shows : Database → List ℕ → Type 0)
    → ContentsEffect events old new → ((es : List EventValue) (text : List ℕ) → Is es text → ShowsEvents old.now es → Shows old.now text) → IsMadeOf events Is made → PageEffect Shows made old new
page_made old new events made Is Shows own to it = record {
  shown = λ clean. made_shows events made Is (ShowsEvents old.now) (Shows old.now) (own.events clean) to it;
  list = own.list;
  beside = own.beside;
  stays_open = λ clean. made_on events made Is _ (own.stays_open clean) it;
  settled = λ clean. made_on events made Is _ (own.settled clean) it;
  crash = own.crash;
  foreign = made_foreign events made Is (HasCleanDisk new → IsNoInbox old.now) own.foreign it;
  both = λ there. it.refused command.Foreign (own.both there);
  fault = made_untold events made Is own.fault it;
}

-- what a command that was carried out answers is of its form, also behind the closing
pub closed_says : {X A : Type 0} (ended : Result X CommandFault) (outcome : X → Result A CommandFault) (result : Result A CommandFault) (Says : A → Type 0)
    → MatchResult ended (λ e. result ≡ outcome e) (λ f. result ≡ Err f) → IfOk ended (λ e. IfOk (outcome e) Says) → IfOk result Says
closed_says (Ok e) outcome result Says is says = subst (λ r. IfOk r Says) (sym is) says
closed_says (Err f) outcome result Says is says = subst (λ r. IfOk r Says) (sym is) tt
