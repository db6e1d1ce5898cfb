use Rattle.std.proofs.Common.{◌+◌, drop, sym, ap, ◌∙◌, arith}
use Rattle.inbox.specs.Sets.{set_of}
use Rattle.site.specs.Delta.{is_lacking, lacking_of}
use Rattle.site.proofs.PageLemmas.{drop_first}
use Rattle.site.proofs.DeltaLemmas.{filter_kept, filter_left_out}
use Rattle.site.proofs.site.Site.place_behind.Goals as goal
use Rattle.site.proofs.site.Site.place_behind.Goals.{then-is_wanting+else-left-eq0, else-is_wanting}

pub loop-i-preserved : goal.loop-i-preserved
loop-i-preserved c =
    let E = set_of c.args.self.now in
    let peer = c.args.peer.now in
    let e = c.at.result.now in
    let rest = lacking_of E peer (drop (c.loop-i.i + 1) E) in
    elim c.if-is_wanting.branch [
      | then-is_wanting+else-left-eq0 w ↦
          let first = filter_kept (is_lacking E peer) E c.loop-i.i e c.at.ensures (c.requires.tells e ∙ sym c.is_wanting.ensures ∙ w.if-is_wanting.true) in
          ap (λ n. drop n rest) w.left-is ∙ drop_first (lacking_of E peer (drop c.loop-i.i E)) e rest c.loop-i.left first (omega (arith, w.if-left-eq0.false)) ∙ c.loop-i.invariant
      | else-is_wanting w ↦
          let first = filter_left_out (is_lacking E peer) E c.loop-i.i e c.at.ensures (c.requires.tells e ∙ sym c.is_wanting.ensures ∙ w.if-is_wanting.false) in
          ap (λ n. drop n rest) w.left-is ∙ ap (drop c.loop-i.left) (sym first) ∙ c.loop-i.invariant
    ]
