use Rattle.std.proofs.Common.{[], ◌∷◌, if◌then◌else◌, subst}
use Rattle.std.proofs.lemmas.Result.{IfOk-weaker}
use Rattle.event_json.specs.steps.Pieces.{AddsMembers}
use Rattle.event_json.proofs.PieceLemmas.{next_piece, last_piece, of_some, some_weaker}
use Rattle.event_json.proofs.pieces.read_part.Goals as goal

pub loop-next-preserved : goal.loop-next-preserved
loop-next-preserved g c =
    let old = c.loop-next.invariant in
    let next = c.in-Some-next_comma.ensures in
    let more = c.in-Some-3.more in
    let P = g.G.Gather.is_of c.loop-next.gathered in
    let Q = g.G.Gather.is_of more in
    let adds = of_some (λ m. AddsMembers c.deref-in-Some-next_comma.result.now P (g.G.Gather.is_of m)) c.in_ok-more.field-0 more c.in-Some-3.is c.in_ok-more.ensures in (
      next.1,
      next.2,
      next_piece c.args.bytes.now (if c.args.opened then [] else 91 ∷ []) c.loop-next.at c.in-Some-next_comma.next c.fill-in-Some-next_comma.new.text.items P Q old.1 next.0 c.in_ok-fill-3.ensures old.2
          (subst (λ t. AddsMembers t P Q) c.deref-in-Some-next_comma.ensures.value adds),
    )

pub returns : goal.returns
returns g c =
    let old = c.loop-next.invariant in
    let P = g.G.Gather.is_of c.loop-next.gathered in
    IfOk-weaker c.add_piece-3.result _ _
    (λ o h. some_weaker _ _ o
    (λ more adds. last_piece c.args.bytes.now (if c.args.opened then [] else 91 ∷ []) (if c.args.closed then [] else 93 ∷ []) c.loop-next.at c.fill-3.new.text.items P (g.G.Gather.is_of more) old.1 c.in_ok-fill-4.ensures old.2
    (subst (λ t. AddsMembers t P (g.G.Gather.is_of more)) c.deref-3.ensures.value adds)) h)
    c.add_piece-3.ensures
