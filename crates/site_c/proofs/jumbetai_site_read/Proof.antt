use Rattle.site_c.proofs.Steps.{[], ◌∷◌, refl, w32}
use Rattle.site_c.proofs.Exports.{number_kept, type_of}
use Rattle.library_calls.specs.Rooms.{HasReadPiece}
use Rattle.library_calls.specs.contracts.held.Held.{the_row as R}
use Rattle.library_calls.specs.contracts.calls.Piece.{the_row as A}
use Rattle.library_calls.proofs.held.Held.TheLaws.{the_row_laws as LR}
use Rattle.site_c.specs.contracts.jumbetai_site_read.Key.{name as key}
use Rattle.site_c.proofs.jumbetai_site_read.Statement.{statement}
use Rattle.site_c.proofs.jumbetai_site_read.Code as code
use Rattle.site_c.proofs.calls.site_read.Symbol.{name}
use Rattle.site_c.proofs.calls.site_read.Met.{met}

pub jumbetai_site_read_spec : {M : Type 1} → statement M
jumbetai_site_read_spec 𝓤 𝓛 𝓜 𝓡 wired = number_kept R A w32 (λ n h r old new. HasReadPiece n h r old new) 𝓛 refl (λ h v is. ((LR.lawful 𝓛).typed h (v ∷ []) is).0)
    𝓜 𝓡 key name (type_of 3 code.function.locals) (type_of 7 code.function.locals) (λ b o. (tt, tt)) (λ b o. (tt, tt))
    (code.unfolded 𝓤 𝓛.H 𝓜 𝓡 wired) (met 𝓤 𝓛 𝓜 𝓡 (code.calls-site_c::calls::site_read 𝓡.env wired))
