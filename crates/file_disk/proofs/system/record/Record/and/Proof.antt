-- The empty struct is made, and stands for the calls of before and the one that is noted.
use Rattle.std.proofs.Common.{List, [], ◌∷◌, refl}
use Rattle.std.proofs.raw_atomic.Walks.{proved}
use mir.Syntax.{named}
use mir.Val.{Val}
use types.Kit.{‵, raw, ◌⊛◌, ◌$◌, ◌∵◌, !, qed, move, keep, split, fjoin, suffices, done}
use types.Run.{enter, no_more, and_then, returns}
use types.Part.{agg}
use types.ByLocal.{alloc_all, pass_all, free_all, look_at, get, sets}
use denote.Exit.{yes}
use denote.Builtin.{RefOf, SliceRefOf, u8}
use denote.RattleType.{owns}
use denote.Ref.{ShrRef, shr_vals, shr_Tells}
use denote.Signature.{plain}
use denote.Slice.{ShrSlice, shr_slice_vals, shr_slice_Tells}
use denote.Steps.{nothing}
use denote.Triple.Entry.{alive}
use denote.Triple.Walked.{says, ends_at, Stays, stay_dropped, Goes-dropped}
use Rattle.file_disk.proofs.Empty.{empty_made, nothing_in, with_calls}
use Rattle.file_disk.specs.Note.{event_of_note}
use Rattle.file_disk.specs.contracts.system.record.Record.{the_row as R}
use Rattle.file_disk.specs.contracts.system.record.Note.{the_row as N}
use Rattle.file_disk.specs.contracts.system.record.Record.and as f
use Rattle.file_disk.proofs.system.record.Record.and.Statement.{statement}
use Rattle.file_disk.proofs.system.record.Record.and.Code as code

abbrev stayed : Stays f.ended.signature.params f.ended.kept
stayed = (stay_dropped _ yes, (stay_dropped _ yes, (stay_dropped _ yes, tt)))

pub and_spec : {M : Type 1} → statement M
and_spec 𝓤 𝓛 𝓜 𝓡 w =
    let c = f.clauses 𝓛 𝓜.mem 𝓡.returns in
    proved 𝓛 f.ended stayed c 𝓜 𝓡 (Goes-dropped 𝓛 3 (RefOf (0 ∷ []) tt (plain (λ _. R)) (λ κs. tt)) yes (λ κs x v. refl), (Goes-dropped 𝓛 3 (RefOf (1 ∷ []) tt (plain (λ _. N)) (λ κs. tt)) yes (λ κs x v. refl), (Goes-dropped 𝓛 3 (SliceRefOf (2 ∷ []) tt (plain (λ _. u8)) (λ κs. tt)) yes (λ κs x v. refl), tt)))
    f.Key.name code.function (code.unfolded 𝓤 𝓛.H 𝓜 𝓡 w)
    (λ κs. (shr_vals, (shr_vals, (shr_slice_vals, tt)))) (λ κs. (shr_Tells (named 0) κs.0 R, (shr_Tells (named 1) κs.1.0 N, (shr_slice_Tells (named 2) κs.1.1.0 u8, tt)))) (λ κs qs bounds a g are.
    let vss : List Val × (List Val × (List Val × Unit {0})) = (shr_vals a.0, (shr_vals a.1.0, (shr_slice_vals a.1.1.0, tt))) in
    qed 𝓛 ((raw (alive 𝓛 f.signature κs qs) ⊛ ‵ (owns (ShrRef (named 0) κs.0 R ∷ ShrRef (named 1) κs.1.0 N ∷ ShrSlice (named 2) κs.1.1.0 u8 ∷ []) a vss)) ∷ raw ((c κs a).requires g) ∷ []) ∵ keep ! (0 ∷ []) $ split ! $ keep ! (0 ∷ []) $
    enter ! _ _ _ _ _ $ alloc_all ! (λ l. pass_all ! refl ((tt, tt), ((tt, tt), ((tt, (tt, (record { fits = are.1.1.0.0.1.0 }, tt))), tt))) $
    sets ! (agg ! (no_more !)) refl (tt, tt) $
    sets ! (agg ! (and_then ! (get ! refl) (no_more !))) refl (tt, (tt, tt)) $
    returns ! (look_at ! 0 refl) $ free_all ! refl $ empty_made ! (event_of_note a.1.0.now a.1.1.0.now ∷ a.0.now.calls) $
    suffices ! _ (ends_at 𝓛 f.ended stayed c ((κs, qs, bounds, a, vss), g) nothing_in (with_calls (event_of_note a.1.0.now a.1.1.0.now ∷ a.0.now.calls)) (tt, (tt, (tt, tt))) (tt, (tt, (tt, tt)))) $ says ! refl $
    nothing ! $ nothing ! $ fjoin ! $ nothing ! $ fjoin ! $ nothing ! $ fjoin ! $ move ! (2 ∷ 0 ∷ 1 ∷ []) $ done !))
