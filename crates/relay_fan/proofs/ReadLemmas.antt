-- Readings of a window of the service's rows.
use Rattle.std.proofs.Common.{◌≡◌, ◌⊎◌, ◌<◌, ◌≤◌, inl, inr, ℕ, max, Bool, true, false, nat_lt, List, IsTrue, refl, sym, ap, subst, ◌∙◌, arith}
use Rattle.std.proofs.lemmas.Bool.Decides.{nat_tests}
use Rattle.sqlite.specs.Effect.{Database}
use Rattle.sqlite.specs.State.{State, HasCleanDisk}
use Rattle.attributes.specs.Event.{EventValue}
use Rattle.outbox.specs.Order.{Accepted}
use Rattle.outbox.specs.Service.{IsService}
use Rattle.outbox.specs.Call.{IsServiceReading}
use Rattle.relay.proofs.ReadLemmas.{same_then, service_then}
use Rattle.relay_fan.specs.steps.Lane.{Honestly, IsStill, IsWindow, ShowsWindow}

pub max_top : (a b s : ℕ) → s ≡ max a b → (s ≤ a) ⊎ (s ≤ b)
max_top a b s is = go (nat_lt a b) refl
  where
    go : (t : Bool) → nat_lt a b ≡ t → (s ≤ a) ⊎ (s ≤ b)
    go true less = let low : a < b = grind (arith, nat_tests, less) in inr (omega (arith, is, low))
    go false more = let low : b ≤ a = grind (arith, nat_tests, more) in inl (omega (arith, is, low))

-- what the window shows, after it showed so much from a state of before
pub shows_on : (source : List ℕ) (base start : ℕ) (a b c : State) (rows more : List EventValue) → IsServiceReading a b → IsServiceReading b c → (HasCleanDisk b → ShowsWindow source base start a.now rows) → (HasCleanDisk c → IsTrue b.is_open)
    → (HasCleanDisk c → ShowsWindow source base start b.now rows → ShowsWindow source base start b.now more) → HasCleanDisk c → ShowsWindow source base start a.now more
shows_on source base start a b c rows more h k shows opened next clean commands is =
    let was : HasCleanDisk b = omega (arith, clean, k.clean) in
    let same : b.now ≡ a.now = (h.same was (opened clean) is.layout is.schema).0 in
    next clean (subst (λ db. ShowsWindow source base start db rows) (sym same) (shows was)) commands (service_then a b source base commands h was (opened clean) is)

-- from one state to another a window was read of the first
abbrev pub Reads : List ℕ → ℕ → ℕ → State → State → List EventValue → Type 0
Reads source base start a b rows =
    IsServiceReading a b × (HasCleanDisk b → IsTrue a.is_open) × (HasCleanDisk b → ShowsWindow source base start a.now rows)

pub reads_on : (source source' : List ℕ) (base base' start : ℕ) (a b c : State) (rows more : List EventValue) → source' ≡ source → base' ≡ base → Reads source base start a b rows → IsServiceReading b c → (HasCleanDisk c → IsTrue b.is_open)
    → (HasCleanDisk c → ShowsWindow source' base' start b.now rows → ShowsWindow source' base' start b.now more) → Reads source base start a c more
reads_on source source' base base' start a b c rows more p q h k opened next = (
  same_then a b c h.0 k,
  λ clean. h.1 (omega (arith, clean, k.clean)),
  shows_on source base start a b c rows more h.0 k h.2 opened (subst (λ s. HasCleanDisk c → ShowsWindow s base start b.now rows → ShowsWindow s base start b.now more) p (subst (λ n. HasCleanDisk c → ShowsWindow source' n start b.now rows → ShowsWindow source' n start b.now more) q next)),
)

pub still_none : (a : State) → IsStill a.now a
still_none a clean opened layout has = refl

pub still_then : (db : Database) (b c : State) → IsStill db b → IsServiceReading b c → IsStill db c
still_then db b c h k clean opened layout has =
    let first : b.now ≡ db = h (omega (arith, clean, k.clean)) (k.was_open clean opened) layout has in
    (k.same clean opened layout (ap (λ d. d.schema) first ∙ has)).0 ∙ first

-- a window that was read, of the rows that the service has
pub read_window_of : (source : List ℕ) (base start : ℕ) (db : Database) (b c : State) (rows : List EventValue) → IsStill db b → IsServiceReading b c → (HasCleanDisk c → IsTrue b.is_open) → (HasCleanDisk c → ShowsWindow source base start b.now rows) → Honestly source base db c (λ all. IsWindow base all start rows)
read_window_of source base start db b c rows h k opened shows clean commands is =
    shows clean commands (subst (λ d. IsService d source base commands) (sym (h (omega (arith, clean, k.clean)) (opened clean) is.layout is.schema)) is)
