use Rattle.std.proofs.Common.{arith, ◌≡◌, ◌≢◌, ◌<◌, ◌+◌, ◌-◌, ◌∙◌, ◌++◌, List, [], ap, inl, inr, length, length-append, min, subst, sym, true≢false}
use Rattle.std.proofs.lemmas.Bool.{cases_lt}
use Rattle.attributes.specs.Event.{EventValue}
use Rattle.inbox.specs.Sets.{set_of}
use Rattle.site.specs.Delta.{delta}
use Rattle.site.specs.Page.{page}
use Rattle.library_calls.specs.Sets.{IsBounded, bytes_of}
use Rattle.library_calls.proofs.PartLemmas.{IsSoFar, bounded_on, bytes_both, goes_on}
use Rattle.library_calls.proofs.set_calls.part_of.Goals as goal

pub loop-i-preserved : goal.loop-i-preserved
loop-i-preserved c =
    let E = set_of c.args.site.now in
    let D = delta E c.args.mark.now.peer in
    let from = c.args.mark.now.from in
    let limit = c.part_limit-limit.result in
    let part = c.loop-i.part in
    let m = c.min.result in
    let inv = c.loop-i.invariant in
    let least : m ≡ min (limit - c.len-count.result) 100 = c.min.ensures in
    let count : m ≡ min (limit - length part) 100 = omega (arith, least, c.len-count.ensures) in
    let some : length part < limit = omega (arith, c.if-count-limit.false, c.len-count.ensures) in
    let page_now = c.in_ok-page.page in
    let is : page_now ≡ page D (from + length part) m =
    c.in_ok-page.ensures.page ∙ ap (λ p. page (delta E p) c.loop-i.mark.from m) inv.peer ∙ ap (λ n. page D n m) inv.from in
    let next = goes_on D from limit c.loop-i.i part inv.so_far m page_now count some is in
    let put : c.append.new.part ≡ part ++ page_now = c.in_ok-append.ensures.0 in
    let total = bytes_both part page_now in
    let bytes : c.saturating_add-bytes.result ≡ min (bytes_of (part ++ page_now)) 18446744073709551615 = omega (arith, c.saturating_add-bytes.ensures, inv.bytes, c.in_ok-append.ensures.1, total) in
    let there : page_now ≡ [] → ⊥ = λ none. true≢false (sym (c.if-is_empty.ensures.1 (ap (λ (l : List EventValue). length l) none))) in
    let below : c.args.size ≢ 0 → bytes_of part < c.args.size = λ given. elim (cases_lt c.loop-i.bytes c.args.size) [
      | inl fewer ↦ omega (arith, fewer, inv.bytes, c.ranges.size.fits)
      | inr enough ↦ absurd (true≢false (sym (c.if-is_large.ensures.1 (given, enough))))
    ] in record {
      peer = c.in_ok-page.ensures.peer ∙ inv.peer;
      from = omega (arith, c.in_ok-page.ensures.from, inv.from, ap (λ (l : List EventValue). length l) put, length-append part page_now);
      mark = c.in_ok-page.ensures.mark;
      so_far = subst (λ (l : List EventValue). IsSoFar D from limit (c.loop-i.i + 1) l) (sym put) next;
      bytes = subst (λ (l : List EventValue). c.saturating_add-bytes.result ≡ min (bytes_of l) 18446744073709551615) (sym put) bytes;
      bounded = subst (λ (l : List EventValue). IsBounded c.args.size l) (sym put) (bounded_on D from limit c.loop-i.i part inv.so_far m page_now count some is c.args.size inv.bounded below there);
    }
