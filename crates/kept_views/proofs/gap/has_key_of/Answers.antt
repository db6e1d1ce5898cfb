use Rattle.std.proofs.Common.{◌≡◌, ℕ, suc, true, false, Some, slice_get, sym, ap, ◌∙◌, arith, ◌-◌, ◌≤◌, nat_lt, rules}
use Rattle.std.proofs.lemmas.Option.{slice_get_within}
use Rattle.attributes.specs.Event.{EventValue, id_of, source_of}
use Rattle.inbox.specs.Kept.{events}
use Rattle.inbox.specs.Shown.{has_key}
use Rattle.inbox.proofs.OrderLemmas.{key_cmp_total}
use Rattle.inbox.proofs.ReadLemmas.{item_at}
use Rattle.inbox.proofs.SetLemmas.{sorted-in_order}
use Rattle.kept_views.proofs.GapLemmas.{none_beside, told_behind}
use Rattle.kept_views.proofs.ListLemmas.{one_passes}
use Rattle.kept_views.proofs.gap.has_key_of.Goals as goal
use Rattle.kept_views.proofs.gap.has_key_of.Goals.{else-gap-gt0-via-then-gap-gt0+else-has_key_at, else-gap-gt0-via-else-gap-gt0}
use Rattle.inbox.specs.KeyOrder.{key_cmp}

not_less : (a b : ℕ) → b ≤ a → nat_lt a b ≡ false
not_less a b h = search rules

pub returns-then-has_key_at : goal.returns-then-has_key_at
returns-then-has_key_at c =
    let E = events c.args.inbox.now in
    let here = item_at E (c.args.gap - 1) (omega (arith, c.requires.in_range, c.if-gap-gt0.true)) in
    sym (one_passes (has_key (source_of c.args.event.now) (id_of c.args.event.now)) E (c.args.gap - 1) here.0 here.1 (sym (c.has_key_at.ensures here.0 here.1) ∙ c.if-has_key_at.true))

pub returns-then-gap-len : goal.returns-then-gap-len
returns-then-gap-len c =
    let E = events c.args.inbox.now in
    let e = c.args.event.now in
    let before : (k : ℕ) (x : EventValue) → slice_get E k ≡ Some x → suc k ≡ c.args.gap → has_key (source_of e) (id_of e) x ≡ false =
    elim c.else-gap-gt0.branch [
      | else-gap-gt0-via-then-gap-gt0+else-has_key_at w ↦ λ k x here at. sym (w.has_key_at.ensures x (ap (slice_get E) (omega (arith, at)) ∙ here)) ∙ w.if-has_key_at.false
      | else-gap-gt0-via-else-gap-gt0 w ↦ λ k x here at. absurd (omega (arith, at, w.if-gap-gt0.false))
    ] in
    told_behind E (sorted-in_order key_cmp_total c.args.inbox.now.arrivals) e c.args.gap c.requires c.has_key_at-then-gap-len.result before
    (omega (arith, c.len.ensures, c.if-gap-len.true)) c.has_key_at-then-gap-len.ensures

pub returns-else-gap-len : goal.returns-else-gap-len
returns-else-gap-len c =
    let E = events c.args.inbox.now in
    let e = c.args.event.now in
    let before : (k : ℕ) (x : EventValue) → slice_get E k ≡ Some x → suc k ≡ c.args.gap → has_key (source_of e) (id_of e) x ≡ false =
    elim c.else-gap-gt0.branch [
      | else-gap-gt0-via-then-gap-gt0+else-has_key_at w ↦ λ k x here at. sym (w.has_key_at.ensures x (ap (slice_get E) (omega (arith, at)) ∙ here)) ∙ w.if-has_key_at.false
      | else-gap-gt0-via-else-gap-gt0 w ↦ λ k x here at. absurd (omega (arith, at, w.if-gap-gt0.false))
    ] in
    not_less c.args.gap c.len.result c.if-gap-len.false
    ∙ sym (none_beside E (sorted-in_order key_cmp_total c.args.inbox.now.arrivals) e c.args.gap c.requires before (λ x here. absurd (omega (arith, c.len.ensures, c.if-gap-len.false, slice_get_within E c.args.gap x here))))
