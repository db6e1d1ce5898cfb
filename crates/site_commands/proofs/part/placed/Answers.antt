use Rattle.std.proofs.Common.{◌<◌, ◌++◌, ◌∷◌, [], ℕ, List, ap, ap₂, arith, length, sym, ◌∙◌}
use Rattle.coverage.specs.Summary.{sources_of}
use Rattle.parts.specs.Part.{part_of}
use Rattle.site_commands.proofs.PartLemmas.{placed_more}
use Rattle.site_commands.proofs.part.placed.Goals as goal

pub loop-i-preserved : goal.loop-i-preserved
loop-i-preserved c =
    let sources = sources_of c.args.summary.now in
    let source = c.source_at-source.result.now in
    let below : c.loop-i.i < length sources = omega (arith, c.loop-i-test.true, c.len-i-end.ensures.len) in
    let row = ap₂ (λ (a : List ℕ) (b : ℕ). (a, b)) c.in_ok-of.ensures (c.part_of.ensures.part ∙ ap (part_of c.args.count) c.as_bytes.ensures.value) in
    c.in_ok-push.ensures.ok
    ∙ ap₂ (λ (rows : List (List ℕ × ℕ)) (r : List ℕ × ℕ). rows ++ r ∷ []) c.loop-i.invariant row
    ∙ sym (placed_more c.args.count sources c.loop-i.i source below c.source_at-source.ensures)
