use Rattle.std.proofs.Common.{◌≡◌, ◌∙◌, ℕ, List, [], ◌∷◌, ◌++◌, ap, sym, subst, take, length, arith, refl}
use Rattle.std.specs.Prelude.{Some, slice_get}
use Rattle.std.proofs.lemmas.Option.{slice_get_read}
use Rattle.event_files.specs.Shelves.{AreContents}
use Rattle.event_files.proofs.ListLemmas.{take_next}
use Rattle.event_files.proofs.ShelfLemmas.{AreContents-more}
use Rattle.event_files.proofs.shelf.contents_of.Goals as goal

pub loop-file-preserved : goal.loop-file-preserved
loop-file-preserved g c =
    let names = c.args.names.now in
    let there : slice_get names c.loop-file.file ≡ Some c.as_str.result.now =
    slice_get_read names (length names) c.loop-file.file c.index-names-file.result refl (omega arith) c.index-names-file.is
    ∙ ap (λ (x : List ℕ). Some x) (sym c.as_str.ensures) in
    let grown = AreContents-more (g.S.Shelf.is_content c.args.shelf.now) (take c.loop-file.file names) c.loop-file.contents.items
    c.as_str.result.now c.in-Ok.bytes c.loop-file.invariant c.in-Ok.ensures.content in
    subst (λ (ns : List (List ℕ)). AreContents (g.S.Shelf.is_content c.args.shelf.now) ns c.push.new.self.items)
    (sym (take_next names c.loop-file.file c.as_str.result.now there))
    (subst (λ (cs : List (List ℕ)). AreContents (g.S.Shelf.is_content c.args.shelf.now) (take c.loop-file.file names ++ c.as_str.result.now ∷ []) cs)
    (sym c.in-Ok-push.ensures.items) grown)
