use Rattle.std.proofs.Common.{◌≡◌, ◌∙◌, ◌++◌, ◌∷◌, List, [], append-nil, append_assoc, length, min, take, ap, sym, arith}
use Rattle.std.proofs.lemmas.List.{take_all}
use Rattle.attributes.specs.Event.{EventValue, text}
use Rattle.library_calls.specs.Sets.{bytes_of}
use Rattle.site.proofs.TakeLemmas.{take_next}
use Rattle.library_calls.proofs.PartLemmas.{bytes_both}
use Rattle.library_calls.proofs.set_calls.append.Goals as goal

pub loop-i-init : goal.loop-i-init
loop-i-init c = (sym (append-nil c.args.part.now), omega arith)

pub loop-i-preserved : goal.loop-i-preserved
loop-i-preserved c =
    let e = c.at-event.result.now in
    let front = take c.loop-i.i c.args.page.now in
    let next = take_next c.args.page.now c.loop-i.i e c.at-event.ensures in
    let long : length c.text.result.now ≡ length (text e) = ap (λ l. length l) (c.text.ensures.text ∙ ap text c.event.ensures) in
    let whole = bytes_both front (e ∷ []) in
    let more : c.saturating_add-bytes.result ≡ min (bytes_of (front ++ e ∷ [])) 18446744073709551615 = omega (arith, c.saturating_add-bytes.ensures, long, whole, c.loop-i.invariant.1) in (
      c.in_ok-push.ensures.ok ∙ ap (λ (l : List EventValue). l ++ e ∷ []) c.loop-i.invariant.0 ∙ append_assoc c.args.part.now front (e ∷ []) ∙ ap (λ (l : List EventValue). c.args.part.now ++ l) (sym next),
      more ∙ ap (λ (l : List EventValue). min (bytes_of l) 18446744073709551615) (sym next),
    )

pub returns : goal.returns
returns c =
    let all = take_all c.loop-i.i c.args.page.now (omega (arith, c.len-i-end.ensures, c.loop-i-test.false)) in (
      c.loop-i.invariant.0 ∙ ap (λ (l : List EventValue). c.args.part.now ++ l) all,
      c.loop-i.invariant.1 ∙ ap (λ (l : List EventValue). min (bytes_of l) 18446744073709551615) all,
    )
