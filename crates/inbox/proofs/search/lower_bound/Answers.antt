use Rattle.std.proofs.Common.{◌≡◌, length}
use Rattle.std.specs.declared.cmp.Ordering.TheVariants.{Less}
use Rattle.attributes.specs.Event.{EventValue}
use Rattle.inbox.specs.KeyOrder.{key_cmp}
use Rattle.inbox.specs.steps.Rows.{Row, row_cmp, row_of}
use Rattle.inbox.specs.Ordered.{in_order}
use Rattle.inbox.proofs.OrderLemmas.{key_cmp_total, row_cmp_total}
use Rattle.inbox.proofs.PlaceLemmas.{parts_first, parts_rest}
use Rattle.inbox.proofs.SetLemmas.{sorted-in_order}
use Rattle.inbox.proofs.SearchLemmas.{bound_found, parts_found}
use Rattle.inbox.proofs.search.lower_bound.Goals as goal

falls : (r : Row) (x y : EventValue) → key_cmp x y ≡ Less → row_cmp (row_of y) r ≡ Less → row_cmp (row_of x) r ≡ Less
falls r x y h k = row_cmp_total.trans (row_of x) (row_of y) r h k

pub returns-clause-stands : goal.returns-clause-stands
returns-clause-stands c =
    let probe : Row = (c.args.source.now, c.args.id.now, c.args.text.now) in
    let parts = parts_found (λ e. row_cmp (row_of e) probe) (falls probe) c.args.arrivals.now c.args.places.now.settled c.args.places.now.late (in_order key_cmp c.args.arrivals.now)
    c.requires.reads c.late_before-late.ensures.rise (sorted-in_order key_cmp_total c.args.arrivals.now) c.settled_before-before.result c.late_before-late.result
    c.settled_before-before.ensures c.late_before-late.ensures.end in
    record {
      within = parts.within;
      first = parts_first (length c.args.places.now.settled) c.settled_before-before.result c.late_before-late.result c.args.places.now.late c.late_before-late.ensures.rise parts;
      rest = parts_rest (length c.args.places.now.settled) c.settled_before-before.result c.late_before-late.result c.args.places.now.late c.late_before-late.ensures.rise c.settled_before-before.ensures.within parts;
    }

pub returns-clause-bound : goal.returns-clause-bound
returns-clause-bound c =
    let probe : Row = (c.args.source.now, c.args.id.now, c.args.text.now) in
    bound_found (λ e. row_cmp (row_of e) probe) (falls probe) c.args.arrivals.now c.args.places.now.settled c.args.places.now.late (in_order key_cmp c.args.arrivals.now)
    c.requires.reads c.late_before-late.ensures.rise (sorted-in_order key_cmp_total c.args.arrivals.now) c.settled_before-before.result c.late_before-late.result
    c.settled_before-before.ensures c.late_before-late.ensures.end
