use Rattle.std.proofs.Common.{rules, ◌≡◌, Some, None, true, ap, sym, subst, ◌∙◌}
use Rattle.std.specs.List.Sorted.{IsStrictlySortedBy}
use Rattle.std.specs.Option.{option_map_or}
use Rattle.sha2.specs.Sha256.{sha256}
use Rattle.block_digests.specs.Block.{line_cmp, lines}
use Rattle.block_digests.specs.steps.Mended.{digest_at, digest_over, events_at}
use Rattle.block_digests.specs.steps.Rows.{joined}
use Rattle.block_digests.proofs.PlaceLemmas.{over_some}
use Rattle.block_digests.proofs.RiseLemmas.{in_order_rising}
use Rattle.block_digests.proofs.RowLemmas.{joined_lines}
use Rattle.block_digests.proofs.blocks.Block.digest.Goals as goal

pub returns-then-are_rising : goal.returns-then-are_rising
returns-then-are_rising g c =
    let A = g.E.Arrivals.arrivals c.args.events.now in
    let ps = c.self.inside.places.items in
    let seen : c.deref.result.now ≡ ps = search rules in
    let rising : IsStrictlySortedBy line_cmp (events_at A ps) = subst (λ q. IsStrictlySortedBy line_cmp (events_at A q)) seen (c.are_rising.ensures (search rules)) in
    let text : c.digest_as_they_stand.result ≡ digest_at A ps =
    c.digest_as_they_stand.ensures ∙ ap (λ q. sha256 (lines (events_at A q))) (search rules) ∙ ap (λ E. sha256 (lines E)) (sym (in_order_rising (events_at A ps) rising)) in
    let stale : c.self.inside.digest ≡ None = search rules in
    ap (λ d. Some d) text ∙ sym (ap (λ o. option_map_or (λ d. Some d) o (digest_over A ps)) stale ∙ over_some A ps (search rules)) ∙ search rules

pub returns : goal.returns
returns g c =
    let A = g.E.Arrivals.arrivals c.args.events.now in
    let ps = c.self.inside.places.items in
    let text : c.digest_of_rows.result ≡ digest_at A ps =
    c.digest_of_rows.ensures ∙ ap (λ rs. sha256 (joined rs)) (c.in_ok-rows.ensures ∙ search rules) ∙ ap sha256 (joined_lines (events_at A ps)) in
    let stale : c.self.inside.digest ≡ None = search rules in
    ap (λ d. Some d) text ∙ sym (ap (λ o. option_map_or (λ d. Some d) o (digest_over A ps)) stale ∙ over_some A ps (search rules)) ∙ search rules
