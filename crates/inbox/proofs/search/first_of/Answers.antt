use Rattle.std.proofs.Common.{◌≡◌, ◌+◌, length, sym, ◌∙◌, arith}
use Rattle.inbox.specs.KeyOrder.{key_cmp}
use Rattle.inbox.specs.Ordered.{in_order}
use Rattle.inbox.specs.steps.Woven.{order}
use Rattle.inbox.proofs.OrderLemmas.{key_cmp_total}
use Rattle.inbox.proofs.SetLemmas.{sorted-in_order}
use Rattle.inbox.proofs.ReadLemmas.{length_read}
use Rattle.inbox.proofs.FirstLemmas.{first_shown, none_past, none_there}
use Rattle.inbox.proofs.search.first_of.Goals as goal

pub returns-then-at-len-clause-none : goal.returns-then-at-len-clause-none
returns-then-at-len-clause-none c =
    let size : length (order c.args.places.now) ≡ length (in_order key_cmp c.args.arrivals.now) = length_read c.args.arrivals.now (order c.args.places.now) (in_order key_cmp c.args.arrivals.now) c.requires.reads in
    none_past (in_order key_cmp c.args.arrivals.now) (sorted-in_order key_cmp_total c.args.arrivals.now) c.args.source.now c.args.id.now
    (c.lower_bound-gap.result.before + c.lower_bound-gap.result.late) c.lower_bound-gap.ensures.bound (omega (arith, size, c.len-len.ensures, c.if-at-len.true))

pub returns-then-is_of-clause-some : goal.returns-then-is_of-clause-some
returns-then-is_of-clause-some c =
    first_shown (in_order key_cmp c.args.arrivals.now) (sorted-in_order key_cmp_total c.args.arrivals.now) c.args.source.now c.args.id.now
    (c.lower_bound-gap.result.before + c.lower_bound-gap.result.late) c.lower_bound-gap.ensures.bound c.event_at-event.result.now c.event_at-event.ensures (sym c.is_of.ensures ∙ c.if-is_of.true)

pub returns-else-is_of-clause-none : goal.returns-else-is_of-clause-none
returns-else-is_of-clause-none c =
    none_there (in_order key_cmp c.args.arrivals.now) (sorted-in_order key_cmp_total c.args.arrivals.now) c.args.source.now c.args.id.now
    (c.lower_bound-gap.result.before + c.lower_bound-gap.result.late) c.lower_bound-gap.ensures.bound c.event_at-event.result.now c.event_at-event.ensures (sym c.is_of.ensures ∙ c.if-is_of.false)
