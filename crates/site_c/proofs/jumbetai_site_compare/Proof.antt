use Rattle.site_c.proofs.Steps.{[], ◌∷◌, refl}
use Rattle.site_c.proofs.Exports.{bytes_kept, type_of}
use Rattle.library_calls.specs.Rooms.{RoomCompared}
use Rattle.library_calls.specs.contracts.held.Held.{the_row as R}
use Rattle.library_calls.specs.contracts.set_calls.Lag.{the_row as A}
use Rattle.library_calls.proofs.held.Held.TheLaws.{the_row_laws as LR}
use Rattle.site_c.specs.contracts.jumbetai_site_compare.Key.{name as key}
use Rattle.site_c.proofs.jumbetai_site_compare.Statement.{statement}
use Rattle.site_c.proofs.jumbetai_site_compare.Code as code
use Rattle.site_c.proofs.calls.site_compare.Symbol.{name}
use Rattle.site_c.proofs.calls.site_compare.Met.{met}

pub jumbetai_site_compare_spec : {M : Type 1} → statement M
jumbetai_site_compare_spec 𝓤 𝓛 𝓜 𝓡 wired = bytes_kept R A (λ bytes h r old new. RoomCompared bytes h r new) 𝓛 refl (λ h v is. ((LR.lawful 𝓛).typed h (v ∷ []) is).0)
    𝓜 𝓡 key name (type_of 3 code.function.locals) (type_of 7 code.function.locals) (λ b o. (tt, tt)) (λ b o. (tt, tt))
    (code.unfolded 𝓤 𝓛.H 𝓜 𝓡 wired) (met 𝓤 𝓛 𝓜 𝓡 (code.calls-site_c::calls::site_compare 𝓡.env wired))
