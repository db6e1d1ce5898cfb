use Rattle.std.proofs.Common.{◌≡◌, ◌∷◌, ◌++◌, [], min, take, drop, length, sym, ap, ◌∙◌, arith}
use Rattle.std.proofs.lemmas.List.{length-drop, take_min}
use Rattle.site.proofs.PageLemmas.{page_next}
use Rattle.databases.proofs.pages.page_behind.Goals as goal

pub loop-k-preserved : goal.loop-k-preserved
loop-k-preserved c =
    c.in_ok-push.ensures.ok ∙ ap (λ e. c.loop-k.batch ++ e ∷ []) c.in_ok-copy.ensures ∙ ap (λ l. l ++ c.at.result.now ∷ []) c.loop-k.invariant
    ∙ sym (page_next c.args.events.now c.args.passed c.loop-k.k c.at.result.now c.at.ensures)

pub returns : goal.returns
returns c =
    let left = drop c.args.passed c.args.events.now in
    let all : c.loop-k.k ≡ min 100 (length left) =
    omega (arith, c.loop-k.auto.k-end, c.loop-k-test.false, c.min-count.ensures, c.saturating_sub.ensures, c.len.ensures, length-drop c.args.passed c.args.events.now) in
    c.loop-k.invariant ∙ (ap (λ n. take n left) all ∙ take_min 100 left)
