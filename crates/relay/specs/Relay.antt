-- What relays send.
pub use Rattle.paging.specs.Page.{max_page}
use Rattle.std.specs.Prelude.{◌≡◌, ◌≢◌, ◌⊎◌, ℕ, List, [], ◌∷◌, length, Some, Option, MatchOption, refl}
use Rattle.std.specs.Coded.{Coded, code_by, coded×, coded_ℕ, coded_list}
use Rattle.sqlite.specs.Effect.{Database}
use Rattle.attributes.specs.Event.{EventValue}
use Rattle.attributes.specs.EventCode.{event_code}
use Rattle.attributes.specs.Sequence.{number_of}
use Rattle.outbox.specs.Order.{Accepted}
use Rattle.outbox.specs.Row.{rows_after}
use Rattle.outbox.specs.Service.{IsService}
use Rattle.relay.specs.Route.{AreIn, KeptRoute}
use Rattle.relay.specs.declared.relay.Job.{Job}

-- the relay's last number: of the last event, or this one where there is none
abbrev pub IsLast : ℕ → List EventValue → ℕ → Type 0
IsLast mark [] last = last ≡ mark
IsLast mark (e ∷ []) last = number_of e ≡ Some last
IsLast mark (e ∷ f ∷ events) last = IsLast mark (f ∷ events) last

-- the rows after the relay's mark, at most a page, of a service with this source and base
abbrev pub ForNextRows : List ℕ → ℕ → ℕ → Database → (List EventValue → Type 0) → Type 0
ForNextRows source base mark db Holds = (commands : List Accepted)
    → IsService db source base commands → Holds (rows_after source base commands mark max_page)

-- the next rows, so many, are among those the route has accepted, and this is the last number
abbrev pub Sends : List EventValue → ℕ → ℕ → ℕ → List EventValue → Type 0
Sends accepted mark count last rows =
    (count ≡ length rows) × AreIn rows accepted × IsLast mark rows last

-- without rows the route was asked for nothing; else it was sent these rows once, and this is what
-- the send of a route does
abbrev pub HandsOn : {R : Type 0} → (R → List EventValue → R → Type 0) → R → R → List EventValue
    → Type 0
HandsOn takes old new rows = ((rows ≡ []) × (new ≡ old)) ⊎ takes old rows new

-- a relay's job has the rows, and there is none exactly where there are no rows
abbrev pub HasRows : Option Job → List EventValue → Type 0
HasRows job rows = MatchOption job (rows ≡ []) (λ j. (j.rows ≢ []) × (j.rows ≡ rows))

-- the site and the mark of a relay
pub record RelayMark : Type 0 where
  pub site : ℕ
  pub mark : ℕ

abbrev pub mark_code : Coded RelayMark
mark_code = code_by (ℕ × ℕ) (coded× coded_ℕ coded_ℕ) (λ m. (m.site, m.mark))
    (λ p. record { site = p.0; mark = p.1 }) (λ _. refl)

abbrev pub kept_route_code : Coded KeptRoute
kept_route_code = code_by (List EventValue × ℕ) (coded× (coded_list event_code) coded_ℕ)
    (λ k. (k.events, k.failures)) (λ p. record { events = p.0; failures = p.1 }) (λ _. refl)
