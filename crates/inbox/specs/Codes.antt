-- The code of what an inbox holds, by which a proof tells two apart.
use Rattle.std.specs.Prelude.{ℕ, List, refl}
use Rattle.std.specs.Coded.{Coded, code_by, coded×, coded_list, coded_ℕ}
use Rattle.attributes.specs.EventCode.{event_code}
use Rattle.attributes.specs.Event.{EventValue}
use Rattle.inbox.specs.Kept.{Kept}

abbrev pub kept_code : Coded Kept
kept_code =
    code_by (List EventValue × ℕ) (coded× (coded_list event_code) coded_ℕ)
    (λ k. (k.arrivals, k.spare)) (λ p. record { arrivals = p.0; spare = p.1 }) (λ _. refl)
