use Rattle.site_c.proofs.Steps.{[], ◌∷◌, refl, w64}
use Rattle.site_c.proofs.Exports.{number_kept, type_of}
use Rattle.library_calls.specs.Rooms.{HasAnswer}
use Rattle.library_calls.specs.contracts.held.Held.{the_row as R}
use Rattle.library_calls.specs.contracts.calls.Reply.{the_row as A}
use Rattle.library_calls.proofs.held.Held.TheLaws.{the_row_laws as LR}
use Rattle.site_c.specs.contracts.jumbetai_site_answer.Key.{name as key}
use Rattle.site_c.proofs.jumbetai_site_answer.Statement.{statement}
use Rattle.site_c.proofs.jumbetai_site_answer.Code as code
use Rattle.site_c.proofs.calls.site_answer.Symbol.{name}
use Rattle.site_c.proofs.calls.site_answer.Met.{met}

pub jumbetai_site_answer_spec : {M : Type 1} → statement M
jumbetai_site_answer_spec 𝓤 𝓛 𝓜 𝓡 wired = number_kept R A w64 (λ n h r old new. HasAnswer n h r new) 𝓛 refl (λ h v is. ((LR.lawful 𝓛).typed h (v ∷ []) is).0)
    𝓜 𝓡 key name (type_of 3 code.function.locals) (type_of 7 code.function.locals) (λ b o. (tt, tt)) (λ b o. (tt, tt))
    (code.unfolded 𝓤 𝓛.H 𝓜 𝓡 wired) (met 𝓤 𝓛 𝓜 𝓡 (code.calls-site_c::calls::site_answer 𝓡.env wired))
