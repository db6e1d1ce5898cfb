use Rattle.std.proofs.Common.{◌∙◌, [], ◌∷◌, append-nil, refl, sym}
use Rattle.event_files.proofs.FileLemmas.{refusal_by}
use Rattle.library_calls.proofs.calls.batch_of.Goals as goal

pub returns-in-Ok-clause-ok : goal.returns-in-Ok-clause-ok
returns-in-Ok-clause-ok c =
    let it = c.in-Ok.ensures.ok in
    (it.events ∷ [], (it.spells.reads, it.spells.numbered, tt), it.in_order refl ∙ sym (append-nil it.events))

pub returns-in-Err-clause-err : goal.returns-in-Err-clause-err
returns-in-Err-clause-err c = refusal_by (c.args.bytes.now ∷ []) 0 c.args.bytes.now c.in-Err.fault [] refl c.in-Err.ensures.fault tt
