use Rattle.std.proofs.Common.{rules, arith, ◌≡◌, ◌<◌, ◌+◌, [], ◌∷◌, drop, length, refl, subst, sym, map, ◌≤◌}
use Rattle.std.proofs.lemmas.List.{length-map}
use Rattle.std.proofs.lemmas.List.{drop_all}
use Rattle.std.specs.Map.Iter.{deref_pair}
use Rattle.coverage.specs.Summary.{Entries, entries_of}
use Rattle.lag.specs.Lacking.{Lacks}
use Rattle.lag.proofs.Entries.{entry_at}
use Rattle.lag.proofs.lacking.Goals as goal

pub loop-i-preserved : goal.loop-i-preserved
loop-i-preserved c small more lacks =
    let own = c.args.own.now in
    let es = entries_of c.args.peer.now in
    let inside : c.loop-i.i < length c.in_ok-entries.entries.items = search rules in
    let here = entry_at deref_pair c.in_ok-entries.entries.items c.loop-i.i c.index.result.now inside c.index.ensures in
    let at = subst (λ (l : Entries). drop c.loop-i.i l ≡ deref_pair c.index.result.now ∷ drop (c.loop-i.i + 1) l) c.in_ok-entries.ensures.entries here in
    let one = c.in_ok-lacked.field-0 in
    let sum = c.saturating_add-count.ensures in
    let before : c.loop-i.count < 18446744073709551615 = omega (arith, small, sum) in
    let rest = c.loop-i.invariant before (one + more) (subst (λ (l : Entries). Lacks own l (one + more)) (sym at) (one, c.in_ok-lacked.ensures, (more, lacks, refl))) in
    let same : c.loop-i.count + (one + more) ≡ c.saturating_add-count.result + more = omega (arith, small, sum) in
    subst (λ n. Lacks own es n) same rest

pub returns : goal.returns
returns c small =
    let own = c.args.own.now in
    let es = entries_of c.args.peer.now in
    let long : length (map deref_pair c.in_ok-entries.entries.items) ≤ c.loop-i.i = search (rules, length-map) in
    let end = subst (λ (l : Entries). drop c.loop-i.i l ≡ []) c.in_ok-entries.ensures.entries (drop_all c.loop-i.i (map deref_pair c.in_ok-entries.entries.items) long) in
    let all = c.loop-i.invariant small 0 (subst (λ (l : Entries). Lacks own l 0) (sym end) refl) in
    let same : c.loop-i.count + 0 ≡ c.loop-i.count = omega arith in
    subst (λ n. Lacks own es n) same all
