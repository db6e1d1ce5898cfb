use Rattle.std.proofs.Common.{List, ℕ, sym, subst}
use Rattle.attributes.specs.steps.Place.{StandsIn, payload_in}
use Rattle.attributes.proofs.StretchLemmas.{start_boundary, end_boundary}
use Rattle.attributes.proofs.body.Body.payload.Goals as goal

pub range-requires-clause-start_boundary : goal.range-requires-clause-start_boundary
range-requires-clause-start_boundary c = λ _.
    let t = c.text.result.now in
    let b = c.args.self.now in
    start_boundary t b.payload (payload_in b) (subst (λ (l : List ℕ). StandsIn l b.payload (payload_in b)) (sym c.text.ensures) c.requires.payload) c.text.utf8

pub range-requires-clause-end_boundary : goal.range-requires-clause-end_boundary
range-requires-clause-end_boundary c =
    let t = c.text.result.now in
    let b = c.args.self.now in
    end_boundary t b.payload (payload_in b) (subst (λ (l : List ℕ). StandsIn l b.payload (payload_in b)) (sym c.text.ensures) c.requires.payload) c.text.utf8
