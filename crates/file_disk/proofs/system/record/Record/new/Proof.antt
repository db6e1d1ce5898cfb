-- The empty struct is made, and stands for no calls.
use Rattle.std.proofs.Common.{[], ◌∷◌, refl}
use Rattle.std.proofs.raw_atomic.Walks.{proved}
use types.Kit.{‵, raw, ◌⊛◌, ◌$◌, ◌∵◌, !, qed, keep, join, suffices, done}
use types.Run.{enter, no_more, and_then, returns}
use types.Part.{agg}
use types.ByLocal.{alloc_all, pass_all, free_all, look_at, get, sets}
use denote.RattleType.{owns}
use denote.Steps.{nothing}
use denote.Triple.Entry.{alive}
use denote.Triple.Walked.{says, ends_at}
use Rattle.file_disk.proofs.Empty.{empty_made, nothing_in, with_calls}
use Rattle.file_disk.specs.contracts.system.record.Record.new as f
use Rattle.file_disk.proofs.system.record.Record.new.Statement.{statement}
use Rattle.file_disk.proofs.system.record.Record.new.Code as code

pub new_spec : {M : Type 1} → statement M
new_spec 𝓤 𝓛 𝓜 𝓡 w =
    let c = f.clauses 𝓛 𝓜.mem 𝓡.returns in
    proved 𝓛 f.ended tt c 𝓜 𝓡 tt f.Key.name code.function (code.unfolded 𝓤 𝓛.H 𝓜 𝓡 w) (λ κs. tt) (λ κs. tt) (λ κs qs bounds a g are.
    qed 𝓛 ((raw (alive 𝓛 f.signature κs qs) ⊛ ‵ (owns [] tt tt)) ∷ raw ((c κs a).requires g) ∷ []) ∵ keep ! [] $
    enter ! _ _ _ _ _ $ alloc_all ! (λ l. pass_all ! refl tt $
    sets ! (agg ! (no_more !)) refl (tt, tt) $
    sets ! (agg ! (and_then ! (get ! refl) (no_more !))) refl (tt, (tt, tt)) $
    returns ! (look_at ! 0 refl) $ free_all ! refl $ empty_made ! [] $
    suffices ! _ (ends_at 𝓛 f.ended tt c ((κs, qs, bounds, a, tt), g) nothing_in (with_calls []) tt tt) $ says ! refl $
    nothing ! $ join ! $ nothing ! $ done !))
