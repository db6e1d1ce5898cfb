use Rattle.site_c.proofs.Steps.{List, [], ◌∷◌, refl, proved, leaves, named, Val, vunit, tables, yes, lone, owns, u8, ShrSlice, SliceRefOf, MutRef, Ptr, RawPtr, rawptr_vals, rawptr_Tells, mut_vals, mut_Tells, shr_slice_vals, shr_slice_Tells, plain, Lasts, left, lasts_of, alive, framed, Stays, walk_of, stay_dropped, gave_ref, Goes-dropped, Goes-gave_ref}
use Rattle.site_c.proofs.Exports.{behind, head, keeps_2, type_of}
use Rattle.library_calls.specs.Rooms.{RoomFound}
use Rattle.library_calls.specs.contracts.held.Held.{the_row as R}
use Rattle.library_calls.specs.contracts.calls.Reply.{the_row as A}
use Rattle.library_calls.proofs.held.Held.TheLaws.{the_row_laws as LR}
use Rattle.site_c.specs.contracts.jumbetai_site_get as f
use Rattle.site_c.proofs.jumbetai_site_get.Statement.{statement}
use Rattle.site_c.proofs.jumbetai_site_get.Code as code
use Rattle.site_c.specs.contracts.calls.site_get as g
use Rattle.site_c.proofs.calls.site_get.Symbol.{name}
use Rattle.site_c.proofs.calls.site_get.Met.{met}

abbrev stayed : Stays f.ended.signature.params f.ended.kept
stayed = (stay_dropped _ yes, (stay_dropped _ yes, (stay_dropped _ yes, (gave_ref (2 ∷ []) tt (plain (λ _. A)), tt))))

pub jumbetai_site_get_spec : {M : Type 1} → statement M
jumbetai_site_get_spec 𝓤 𝓛 𝓜 𝓡 wired =
    let c = f.clauses 𝓛 𝓜.mem 𝓡.returns in let W = walk_of 𝓛 f.ended stayed c in let 𝓣 = tables 𝓤 𝓛.H 𝓜 𝓡 𝓡.env in
    proved 𝓛 f.ended stayed c 𝓜 𝓡 (Goes-dropped 𝓛 3 (plain (λ _. RawPtr)) yes (λ κs x w. refl), (Goes-dropped 𝓛 3 (SliceRefOf (0 ∷ []) tt (plain (λ _. u8)) (λ κs. tt)) yes (λ κs x w. refl), (Goes-dropped 𝓛 3 (SliceRefOf (1 ∷ []) tt (plain (λ _. u8)) (λ κs. tt)) yes (λ κs x w. refl), (Goes-gave_ref 𝓛 3 2 tt (plain (λ _. A)), tt))))
    f.Key.name code.function (code.unfolded 𝓤 𝓛.H 𝓜 𝓡 wired)
    (λ κs. (rawptr_vals, (shr_slice_vals, (shr_slice_vals, (mut_vals, tt))))) (λ κs. (rawptr_Tells, (shr_slice_Tells (named 0) κs.0 u8, (shr_slice_Tells (named 1) κs.1.0 u8, (mut_Tells (named 2) κs.1.1.0 A, tt))))) (λ κs qs bounds a h are.
    let rest : List Val × (List Val × (List Val × Unit {0})) = (shr_slice_vals a.1.0, (shr_slice_vals a.1.1.0, (mut_vals a.1.1.1.0, tt))) in
    let y : Ptr → W.Ghost = λ p. ((κs, qs, bounds, (p, a.1), (rawptr_vals p, rest)), h) in
    keeps_2 𝓛 R refl (λ x v is. ((LR.lawful 𝓛).typed x (v ∷ []) is).0) 𝓣.C (framed 𝓤 𝓛.H 𝓜 𝓣) 𝓣.Λ name
    (alive 𝓛 f.signature κs qs) (owns (ShrSlice (named 0) κs.0 u8 ∷ ShrSlice (named 1) κs.1.0 u8 ∷ MutRef (named 2) κs.1.1.0 A ∷ []) a.1 rest) a.0 h (λ p. W.post (y p))
    (λ (ws : Lasts g.ended κs (h, a.1)). left (R.exit g.ended.kept.0) h ws.0) (λ ws. lasts_of κs (behind g.signature.params) g.ended.kept.1 a.1 ws.1) (λ r ws. RoomFound a.1.0.now a.1.1.0.now h r ws.1.1.1.0) (λ p ws. leaves 𝓛 f.ended stayed c (y p) vunit tt (tt, (tt, (tt, (ws.1.1.1.0, tt)))) (tt, (tt, (tt, (tt, tt)))))
    3 (type_of 4 code.function.locals) (type_of 8 code.function.locals) (lone A.mir) a.1.1.1.0.ref_ptr.0 a.1.1.1.0.ref_ptr.1 (tt, tt) (tt, tt) (lone (ShrSlice (named 0) κs.0 u8).mir) (head (shr_slice_vals a.1.0)) (tt, (tt, (record { fits = are.1.0.0.1.0 }, tt))) (lone (ShrSlice (named 1) κs.1.0 u8).mir) (head (shr_slice_vals a.1.1.0)) (tt, (tt, (record { fits = are.1.1.0.0.1.0 }, tt))) (λ v. met 𝓤 𝓛 𝓜 𝓡 (code.calls-site_c::calls::site_get 𝓡.env wired) ((κs, qs, tt, (h, a.1), (v ∷ [], rest)), tt)))
