use Rattle.std.proofs.Common.{◌≡◌, ℕ, List, length, refl, sym, subst, arith, string_bytes}
use Rattle.std.specs.Prelude.{Some, slice_get}
use Rattle.std.proofs.lemmas.Option.{slice_get_read}
use Rattle.site_commands.specs.Checks.{IsFaultOf}
use Rattle.site_commands.proofs.CheckLemmas.{AreFaultsOf-next}
use Rattle.site_commands.proofs.check.lines_of.Goals as goal

pub loop-i-preserved : goal.loop-i-preserved
loop-i-preserved c =
    let b = c.args.is_for_number in
    let files = c.args.files.now in let contents = c.args.contents.now in
    let file : slice_get files c.loop-i.i ≡ Some c.index-files-i.result =
    slice_get_read files (length files) c.loop-i.i c.index-files-i.result refl (omega arith) c.index-files-i.is in
    let bytes : slice_get contents c.loop-i.i ≡ Some c.index-contents-i.result =
    slice_get_read contents (length contents) c.loop-i.i c.index-contents-i.result refl (omega (arith, c.requires)) c.index-contents-i.is in
    let one : IsFaultOf b c.index-files-i.result c.index-contents-i.result c.as_str.result.now =
    subst (λ (t : List ℕ). IsFaultOf b c.index-files-i.result c.index-contents-i.result t) (sym c.as_str.ensures) c.in_ok-lines.ensures in
    AreFaultsOf-next b files contents c.loop-i.i (string_bytes c.loop-i.text) c.index-files-i.result c.index-contents-i.result c.as_str.result.now (string_bytes c.push_str.new.self)
    file bytes c.in_ok-push_str.ensures.bytes c.loop-i.invariant one
