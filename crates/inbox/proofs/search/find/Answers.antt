use Rattle.std.proofs.Common.{◌≡◌, ◌+◌, ◌<◌, ℕ, List, Some, length, sym, ap, ◌∙◌, arith, subst}
use Rattle.std.proofs.lemmas.Option.{slice_get_within}
use Rattle.attributes.specs.Bytes.{byte_cmp}
use Rattle.attributes.specs.Event.{EventValue, id_of, source_of, text}
use Rattle.attributes.specs.Fault.{IsEvent}
use Rattle.inbox.specs.KeyOrder.{key_cmp}
use Rattle.inbox.specs.Ordered.{in_order}
use Rattle.inbox.specs.steps.Rows.{Row, row_cmp, row_of}
use Rattle.inbox.specs.steps.Search.{IsLowerBound}
use Rattle.inbox.specs.steps.Woven.{order}
use Rattle.inbox.proofs.OrderLemmas.{key_cmp_total, text_ties}
use Rattle.inbox.proofs.SetLemmas.{sorted-in_order}
use Rattle.inbox.proofs.ReadLemmas.{has_there, length_read, new_in_gap}
use Rattle.inbox.proofs.SearchLemmas.{gap_from_bound, some_same}
use Rattle.inbox.proofs.search.find.Goals as goal

pub overflow_add-at : goal.overflow_add-at
overflow_add-at c =
    let size : length (order c.args.places.now) ≡ length (in_order key_cmp c.args.arrivals.now) = length_read c.args.arrivals.now (order c.args.places.now) (in_order key_cmp c.args.arrivals.now) c.requires.reads in
    omega (arith, size, c.lower_bound-gap.ensures.bound.in_range, c.len-len.ensures, c.len-len.type_inv)

pub returns-in-Equal : goal.returns-in-Equal
returns-in-Equal c =
    let there = c.event_at.ensures ∙ ap Some (sym c.event.ensures ∙ c.compare.ensures.same.0 c.in-Equal.is ∙ c.event-sought.ensures) in
    record {
      there = there;
      stands = tt;
      gap = tt;
      known = sym (has_there key_cmp_total c.args.arrivals.now c.args.event.now _ there);
      event = subst IsEvent c.event-sought.ensures c.text-text.ensures.event;
    }

pub returns-in_default : goal.returns-in_default
returns-in_default c =
    let x : EventValue = c.args.event.now in
    let E : List EventValue = in_order key_cmp c.args.arrivals.now in
    let i : ℕ = c.lower_bound-gap.result.before + c.lower_bound-gap.result.late in
    let q = c.event-sought.ensures in
    let s = c.source-source.ensures.value ∙ ap source_of q in
    let d = c.id-id.ensures.value ∙ ap id_of q in
    let t = c.text-text.ensures.text ∙ ap text q in
    let probe : ◌≡◌ {A = Row} (c.source-source.result.now, c.id-id.result.now, c.text-text.result.now) (row_of x) = λ j. (s j, d j, t j) in
    let gap = gap_from_bound key_cmp_total E x i (sorted-in_order key_cmp_total c.args.arrivals.now)
    (subst (λ (r : Row). IsLowerBound (λ e. row_cmp (row_of e) r) E i) probe c.lower_bound-gap.ensures.bound)
    (λ y here tie.
    let same : c.event.result.now ≡ y = c.event.ensures ∙ some_same c.event_at.result.now y (sym c.event_at.ensures ∙ here) in
    c.in_default.not-Equal (c.compare.ensures.order ∙ (λ k. byte_cmp (text (same k)) (text (q k))) ∙ text_ties y x tie)) in
    record {
      there = tt;
      stands = c.lower_bound-gap.ensures.stands;
      gap = gap;
      known = sym (new_in_gap key_cmp_total c.args.arrivals.now x i gap);
      event = subst IsEvent c.event-sought.ensures c.text-text.ensures.event;
    }

pub returns-else-at-len : goal.returns-else-at-len
returns-else-at-len c =
    let x : EventValue = c.args.event.now in
    let E : List EventValue = in_order key_cmp c.args.arrivals.now in
    let i : ℕ = c.lower_bound-gap.result.before + c.lower_bound-gap.result.late in
    let q = c.event-sought.ensures in
    let s = c.source-source.ensures.value ∙ ap source_of q in
    let d = c.id-id.ensures.value ∙ ap id_of q in
    let t = c.text-text.ensures.text ∙ ap text q in
    let probe : ◌≡◌ {A = Row} (c.source-source.result.now, c.id-id.result.now, c.text-text.result.now) (row_of x) = λ j. (s j, d j, t j) in
    let size : length (order c.args.places.now) ≡ length E = length_read c.args.arrivals.now (order c.args.places.now) E c.requires.reads in
    let gap = gap_from_bound key_cmp_total E x i (sorted-in_order key_cmp_total c.args.arrivals.now)
    (subst (λ (r : Row). IsLowerBound (λ e. row_cmp (row_of e) r) E i) probe c.lower_bound-gap.ensures.bound)
    (λ y here tie. let inside : i < length E = slice_get_within E i y here in omega (arith, inside, size, c.len-len.ensures, c.if-at-len.false)) in
    record {
      there = tt;
      stands = c.lower_bound-gap.ensures.stands;
      gap = gap;
      known = sym (new_in_gap key_cmp_total c.args.arrivals.now x i gap);
      event = subst IsEvent c.event-sought.ensures c.text-text.ensures.event;
    }
