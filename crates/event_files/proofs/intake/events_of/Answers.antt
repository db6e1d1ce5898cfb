use Rattle.std.proofs.Common.{◌≡◌, ◌∙◌, ◌++◌, ℕ, List, ap, sym, subst, take, length, arith, refl}
use Rattle.std.specs.Prelude.{Some, slice_get}
use Rattle.std.proofs.lemmas.Option.{slice_get_read}
use Rattle.attributes.specs.Event.{EventValue}
use Rattle.event_files.specs.Files.{SpellAll}
use Rattle.event_files.proofs.ListLemmas.{take_next}
use Rattle.event_files.proofs.FileLemmas.{SpellAll-more, first_fits, refusal_by}
use Rattle.event_files.proofs.intake.events_of.Goals as goal

pub returns-in-Err-clause-err : goal.returns-in-Err-clause-err
returns-in-Err-clause-err g c =
    let files = c.args.files.now in
    let there : slice_get files c.loop-file.file ≡ Some c.as_bytes.result.now =
    slice_get_read files (length files) c.loop-file.file c.index-files-file.result refl (omega arith) c.index-files-file.is
    ∙ ap (λ (x : List ℕ). Some x) (sym c.as_bytes.ensures.value) in
    refusal_by files c.loop-file.file c.as_bytes.result.now c.in-Err.fault c.loop-file.invariant.0 there c.in-Err.ensures.fault c.loop-file.invariant.1

pub returns-in-Err-clause-memory : goal.returns-in-Err-clause-memory
returns-in-Err-clause-memory g c = λ why.
    let files = c.args.files.now in
    let there : slice_get files c.loop-file.file ≡ Some c.as_bytes.result.now =
    slice_get_read files (length files) c.loop-file.file c.index-files-file.result refl (omega arith) c.index-files-file.is
    ∙ ap (λ (x : List ℕ). Some x) (sym c.as_bytes.ensures.value) in
    first_fits files c.loop-file.file c.as_bytes.result.now c.loop-file.invariant.0 there c.loop-file.invariant.1 (c.in-Err.ensures.memory why)

pub loop-file-preserved : goal.loop-file-preserved
loop-file-preserved g c =
    let files = c.args.files.now in
    let there : slice_get files c.loop-file.file ≡ Some c.as_bytes.result.now =
    slice_get_read files (length files) c.loop-file.file c.index-files-file.result refl (omega arith) c.index-files-file.is
    ∙ ap (λ (x : List ℕ). Some x) (sym c.as_bytes.ensures.value) in
    subst (λ (fs : List (List ℕ)). SpellAll fs c.append.new.events) (sym (take_next files c.loop-file.file c.as_bytes.result.now there))
    (SpellAll-more (take c.loop-file.file files) c.as_bytes.result.now c.in-Ok.ensures.ok.events c.loop-file.events c.append.new.events
    c.loop-file.invariant c.in-Ok.ensures.ok.spells.reads c.in-Ok.ensures.ok.spells.numbered
    (c.in_ok-append-in-Ok.ensures ∙ ap (λ (l : List EventValue). c.loop-file.events ++ l) (c.in-Ok.ensures.ok.in_order refl)))
