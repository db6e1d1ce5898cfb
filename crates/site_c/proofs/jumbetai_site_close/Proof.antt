use Rattle.site_c.proofs.Steps.{[], ◌∷◌, refl, ftrue, proved, leaves, vunit, tables, yes, Ptr, RawPtr, rawptr_vals, rawptr_Tells, plain, lasts, alive, framed, Stays, walk_of, stay_dropped, Goes-dropped}
use Rattle.site_c.proofs.Exports.{closes_it}
use Rattle.library_calls.specs.Rooms.{LetsGo}
use Rattle.library_calls.specs.contracts.held.Held.{the_row as R}
use Rattle.library_calls.proofs.held.Held.TheLaws.{the_row_laws as LR}
use Rattle.site_c.specs.contracts.jumbetai_site_close as f
use Rattle.site_c.proofs.jumbetai_site_close.Statement.{statement}
use Rattle.site_c.proofs.jumbetai_site_close.Code as code
use Rattle.site_c.specs.contracts.calls.site_close as g
use Rattle.site_c.proofs.calls.site_close.Symbol.{name}
use Rattle.site_c.proofs.calls.site_close.Met.{met}

abbrev stayed : Stays f.ended.signature.params f.ended.kept
stayed = (stay_dropped _ yes, tt)

pub jumbetai_site_close_spec : {M : Type 1} → statement M
jumbetai_site_close_spec 𝓤 𝓛 𝓜 𝓡 wired =
    let c = f.clauses 𝓛 𝓜.mem 𝓡.returns in let W = walk_of 𝓛 f.ended stayed c in let 𝓣 = tables 𝓤 𝓛.H 𝓜 𝓡 𝓡.env in
    proved 𝓛 f.ended stayed c 𝓜 𝓡 (Goes-dropped 𝓛 0 (plain (λ _. RawPtr)) yes (λ κs x w. refl), tt)
    f.Key.name code.function (code.unfolded 𝓤 𝓛.H 𝓜 𝓡 wired)
    (λ κs. (rawptr_vals, tt)) (λ κs. (rawptr_Tells, tt)) (λ κs qs bounds a h are.
    let y : Ptr → W.Ghost = λ p. ((κs, qs, bounds, (p, tt), (rawptr_vals p, tt)), h) in
    closes_it 𝓛 R refl (λ x v is. ((LR.lawful 𝓛).typed x (v ∷ []) is).0) 𝓣.C (framed 𝓤 𝓛.H 𝓜 𝓣) 𝓣.Λ name
    (alive 𝓛 f.signature κs qs) ftrue a.0 h (λ p. W.post (y p))
    (lasts g.ended κs (h, tt)) (LetsGo h.site) (λ p. leaves 𝓛 f.ended stayed c (y p) vunit tt (tt, tt) (tt, tt))
    (λ v. met 𝓤 𝓛 𝓜 𝓡 (code.calls-site_c::calls::site_close 𝓡.env wired) ((κs, qs, tt, (h, tt), (v ∷ [], tt)), tt)))
