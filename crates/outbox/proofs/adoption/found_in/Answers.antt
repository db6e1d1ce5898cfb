use Rattle.std.proofs.Common.{◌≡◌, [], ◌∷◌, sym, ◌∙◌, ap, arith, subst}
use Rattle.sqlite.specs.Effect.{Database}
use Rattle.sqlite.specs.State.{HasCleanDisk}
use Rattle.sqlite.specs.Held.{state}
use Rattle.outbox.specs.Layout.{ServiceLayout}
use Rattle.outbox.specs.steps.Change.{ShowOrders, shown_service}
use Rattle.outbox.specs.steps.Replay.{IsReplay}
use Rattle.outbox.proofs.FoundLemmas.{all_leave, found, found_counts, not_both, no_orders, no_other, no_rows, no_source, one_leaves, two_leave}
use Rattle.outbox.proofs.TextLemmas.{all_orders_is, all_rows_is, service_row_is}
use Rattle.outbox.proofs.adoption.found_in.Goals as goal

pub all_of-requires : goal.all_of-requires
all_of-requires g c = record { plain = (λ l. (service_row_is l).1) }

pub all_of-requires-2 : goal.all_of-requires-2
all_of-requires-2 g c = record { plain = (λ l. (all_rows_is l).1) }

pub all_of-requires-3 : goal.all_of-requires-3
all_of-requires-3 g c = record { plain = (λ l. (all_orders_is l).1) }

pub returns-then-branch-clause-stands : goal.returns-then-branch-clause-stands
returns-then-branch-clause-stands g c clean still =
    let service_is : c.in_ok-services.services.items ≡ shown_service c.in-Some.source c.in-Some.base ∷ [] = sym c.deref.ensures.value ∙ (rw c.in-Some.is at c.in_ok-source.ensures.row) in
    let replayed : IsReplay c.in-Some.base c.in_ok-rows.rows.items c.in-Some-2.replayed = rw (c.in-Some-2.is, c.deref-2.ensures.value) at c.in_ok-replayed.ensures.replay in
    found (state g.S.Store c.args.conn.now) (state g.S.Store c.all_of.new.conn) (state g.S.Store c.all_of-2.new.conn) (state g.S.Store c.all_of-3.new.conn) (c.args.layout, c.requires.there) c.in-Some.source c.in-Some.base c.in_ok-services.services.items c.in_ok-rows.rows.items
    c.in_ok-orders.orders.items c.in-Some-2.replayed c.requires.schema clean still c.all_of.ensures.same c.all_of-2.ensures.same c.all_of-3.ensures.same c.all_of.ensures.live c.all_of-2.ensures.live c.all_of-3.ensures.live c.in_ok-services.ensures.shown
    c.in_ok-rows.ensures.shown c.in_ok-orders.ensures.shown service_is replayed (λ commands told. rw c.deref-3.ensures.value at ((c.in_ok-are_orders.ensures.orders commands told).0 c.if-branch.true))

pub returns-then-branch-clause-counts : goal.returns-then-branch-clause-counts
returns-then-branch-clause-counts g c clean still =
    let service_is : c.in_ok-services.services.items ≡ shown_service c.in-Some.source c.in-Some.base ∷ [] = sym c.deref.ensures.value ∙ (rw c.in-Some.is at c.in_ok-source.ensures.row) in
    let replayed : IsReplay c.in-Some.base c.in_ok-rows.rows.items c.in-Some-2.replayed = rw (c.in-Some-2.is, c.deref-2.ensures.value) at c.in_ok-replayed.ensures.replay in
    found_counts (state g.S.Store c.args.conn.now) (state g.S.Store c.all_of.new.conn) (state g.S.Store c.all_of-2.new.conn) (state g.S.Store c.all_of-3.new.conn) (c.args.layout, c.requires.there) c.in-Some.source c.in-Some.base c.in_ok-services.services.items c.in_ok-rows.rows.items
    c.in_ok-orders.orders.items c.in-Some-2.replayed c.requires.schema clean still c.all_of.ensures.same c.all_of-2.ensures.same c.all_of-3.ensures.same c.all_of.ensures.live c.all_of-2.ensures.live c.all_of-3.ensures.live c.in_ok-services.ensures.shown
    c.in_ok-rows.ensures.shown c.in_ok-orders.ensures.shown service_is replayed (λ commands told. rw c.deref-3.ensures.value at ((c.in_ok-are_orders.ensures.orders commands told).0 c.if-branch.true))

pub returns-in_default-clause-none : goal.returns-in_default-clause-none
returns-in_default-clause-none g c clean =
    no_source (state g.S.Store c.args.conn.now) (state g.S.Store c.all_of.new.conn) c.in_ok-services.services.items (c.in_ok-services.ensures.shown clean) (λ source base allowed is. (rw c.in_default.is at c.in_ok-source.ensures.none) source base allowed (c.deref.ensures.value ∙ is))

pub returns-in_default-2-clause-none : goal.returns-in_default-2-clause-none
returns-in_default-2-clause-none g c clean =
    let a = state g.S.Store c.args.conn.now in
    let b = state g.S.Store c.all_of.new.conn in
    let d = state g.S.Store c.all_of-2.new.conn in
    let clean_b : HasCleanDisk b = omega (arith, c.all_of-2.ensures.same.clean, clean) in
    let ab = (c.all_of.ensures.same.same clean_b (c.in_ok-rows.ensures.open clean).0 (c.args.layout, c.requires.there) c.requires.schema).0 in
    let service_is : c.in_ok-services.services.items ≡ shown_service c.in-Some.source c.in-Some.base ∷ [] = sym c.deref.ensures.value ∙ (rw c.in-Some.is at c.in_ok-source.ensures.row) in
    no_rows a b d c.in_ok-services.services.items c.in_ok-rows.rows.items c.in-Some.source c.in-Some.base (c.in_ok-services.ensures.shown clean_b) service_is ab (c.in_ok-rows.ensures.shown clean)
    (λ commands accepted is. (rw c.in_default-2.is at c.in_ok-replayed.ensures.none) commands accepted (c.deref-2.ensures.value ∙ is))

pub returns-clause-none : goal.returns-clause-none
returns-clause-none g c clean =
    let a = state g.S.Store c.args.conn.now in
    let b = state g.S.Store c.all_of.new.conn in
    let d = state g.S.Store c.all_of-2.new.conn in
    let e = state g.S.Store c.all_of-3.new.conn in
    let clean_d : HasCleanDisk d = omega (arith, c.all_of-3.ensures.same.clean, clean) in
    let clean_b : HasCleanDisk b = omega (arith, c.all_of-2.ensures.same.clean, clean_d) in
    let ab : b.now ≡ a.now = (c.all_of.ensures.same.same clean_b (c.in_ok-rows.ensures.open clean_d).0 (c.args.layout, c.requires.there) c.requires.schema).0 in
    let has_b = ap (λ (x : Database). x.schema) ab ∙ c.requires.schema in
    let bd : d.now ≡ b.now = (c.all_of-2.ensures.same.same clean_d (c.in_ok-orders.ensures.open clean).0 (c.args.layout, c.requires.there) has_b).0 in
    let service_is : c.in_ok-services.services.items ≡ shown_service c.in-Some.source c.in-Some.base ∷ [] = sym c.deref.ensures.value ∙ (rw c.in-Some.is at c.in_ok-source.ensures.row) in
    let replayed : IsReplay c.in-Some.base c.in_ok-rows.rows.items c.in-Some-2.replayed = rw (c.in-Some-2.is, c.deref-2.ensures.value) at c.in_ok-replayed.ensures.replay in
    no_orders a b d c.in_ok-services.services.items c.in_ok-rows.rows.items c.in-Some.source c.in-Some.base (c.in_ok-services.ensures.shown clean_b) service_is ab (c.in_ok-rows.ensures.shown clean_d)
    e c.in_ok-orders.orders.items c.in-Some-2.replayed bd (c.in_ok-orders.ensures.shown clean) replayed
    (λ commands told orders. let yes = (c.in_ok-are_orders.ensures.orders commands told).1 (subst (λ rows. ShowOrders rows commands) (sym c.deref-3.ensures.value) orders) in not_both c.in_ok-are_orders.field-0 yes c.if-branch.false)

pub returns-then-branch-clause-exact : goal.returns-then-branch-clause-exact
returns-then-branch-clause-exact g c clean =
    let b = state g.S.Store c.all_of.new.conn in
    let d = state g.S.Store c.all_of-2.new.conn in
    let clean_d : HasCleanDisk d = omega (arith, c.all_of-3.ensures.same.clean, clean) in
    let clean_b : HasCleanDisk b = omega (arith, c.all_of-2.ensures.same.clean, clean_d) in
    let service_is : c.in_ok-services.services.items ≡ shown_service c.in-Some.source c.in-Some.base ∷ [] = sym c.deref.ensures.value ∙ (rw c.in-Some.is at c.in_ok-source.ensures.row) in
    no_other (state g.S.Store c.args.conn.now) b c.in_ok-services.services.items c.in-Some.source c.in-Some.base (c.in_ok-services.ensures.shown clean_b) service_is

pub returns-in_err-services-clause-left : goal.returns-in_err-services-clause-left
returns-in_err-services-clause-left g c = one_leaves (state g.S.Store c.args.conn.now) (state g.S.Store c.all_of.new.conn) c.args.layout c.requires.there c.requires.schema c.all_of.ensures.same c.all_of.ensures.crash

pub returns-in_err-source-clause-left : goal.returns-in_err-source-clause-left
returns-in_err-source-clause-left g c = one_leaves (state g.S.Store c.args.conn.now) (state g.S.Store c.all_of.new.conn) c.args.layout c.requires.there c.requires.schema c.all_of.ensures.same c.all_of.ensures.crash

pub returns-in_default-clause-left : goal.returns-in_default-clause-left
returns-in_default-clause-left g c = one_leaves (state g.S.Store c.args.conn.now) (state g.S.Store c.all_of.new.conn) c.args.layout c.requires.there c.requires.schema c.all_of.ensures.same c.all_of.ensures.crash

pub returns-in_err-rows-clause-left : goal.returns-in_err-rows-clause-left
returns-in_err-rows-clause-left g c = two_leave (state g.S.Store c.args.conn.now) (state g.S.Store c.all_of.new.conn) (state g.S.Store c.all_of-2.new.conn) c.args.layout c.requires.there c.requires.schema c.all_of.ensures.same c.all_of.ensures.crash c.in_ok-services.ensures.open c.all_of-2.ensures.same c.all_of-2.ensures.crash

pub returns-in_err-replayed-clause-left : goal.returns-in_err-replayed-clause-left
returns-in_err-replayed-clause-left g c = two_leave (state g.S.Store c.args.conn.now) (state g.S.Store c.all_of.new.conn) (state g.S.Store c.all_of-2.new.conn) c.args.layout c.requires.there c.requires.schema c.all_of.ensures.same c.all_of.ensures.crash c.in_ok-services.ensures.open c.all_of-2.ensures.same c.all_of-2.ensures.crash

pub returns-in_default-2-clause-left : goal.returns-in_default-2-clause-left
returns-in_default-2-clause-left g c = two_leave (state g.S.Store c.args.conn.now) (state g.S.Store c.all_of.new.conn) (state g.S.Store c.all_of-2.new.conn) c.args.layout c.requires.there c.requires.schema c.all_of.ensures.same c.all_of.ensures.crash c.in_ok-services.ensures.open c.all_of-2.ensures.same c.all_of-2.ensures.crash

pub returns-in_err-orders-clause-left : goal.returns-in_err-orders-clause-left
returns-in_err-orders-clause-left g c = all_leave (state g.S.Store c.args.conn.now) (state g.S.Store c.all_of.new.conn) (state g.S.Store c.all_of-2.new.conn) (state g.S.Store c.all_of-3.new.conn) c.args.layout c.requires.there c.requires.schema c.all_of.ensures.same c.all_of.ensures.crash c.in_ok-services.ensures.open c.all_of-2.ensures.same c.all_of-2.ensures.crash c.in_ok-rows.ensures.open c.all_of-3.ensures.same c.all_of-3.ensures.crash

pub returns-in_err-are_orders-clause-left : goal.returns-in_err-are_orders-clause-left
returns-in_err-are_orders-clause-left g c = all_leave (state g.S.Store c.args.conn.now) (state g.S.Store c.all_of.new.conn) (state g.S.Store c.all_of-2.new.conn) (state g.S.Store c.all_of-3.new.conn) c.args.layout c.requires.there c.requires.schema c.all_of.ensures.same c.all_of.ensures.crash c.in_ok-services.ensures.open c.all_of-2.ensures.same c.all_of-2.ensures.crash c.in_ok-rows.ensures.open c.all_of-3.ensures.same c.all_of-3.ensures.crash

pub returns-then-branch-clause-left : goal.returns-then-branch-clause-left
returns-then-branch-clause-left g c = all_leave (state g.S.Store c.args.conn.now) (state g.S.Store c.all_of.new.conn) (state g.S.Store c.all_of-2.new.conn) (state g.S.Store c.all_of-3.new.conn) c.args.layout c.requires.there c.requires.schema c.all_of.ensures.same c.all_of.ensures.crash c.in_ok-services.ensures.open c.all_of-2.ensures.same c.all_of-2.ensures.crash c.in_ok-rows.ensures.open c.all_of-3.ensures.same c.all_of-3.ensures.crash

pub returns-clause-left : goal.returns-clause-left
returns-clause-left g c = all_leave (state g.S.Store c.args.conn.now) (state g.S.Store c.all_of.new.conn) (state g.S.Store c.all_of-2.new.conn) (state g.S.Store c.all_of-3.new.conn) c.args.layout c.requires.there c.requires.schema c.all_of.ensures.same c.all_of.ensures.crash c.in_ok-services.ensures.open c.all_of-2.ensures.same c.all_of-2.ensures.crash c.in_ok-rows.ensures.open c.all_of-3.ensures.same c.all_of-3.ensures.crash

pub returns-then-branch-clause-settled : goal.returns-then-branch-clause-settled
returns-then-branch-clause-settled g c clean =
    let b = state g.S.Store c.all_of.new.conn in
    let d = state g.S.Store c.all_of-2.new.conn in
    let clean_d : HasCleanDisk d = omega (arith, c.all_of-3.ensures.same.clean, clean) in
    let clean_b : HasCleanDisk b = omega (arith, c.all_of-2.ensures.same.clean, clean_d) in
    let l : ServiceLayout = (c.args.layout, c.requires.there) in
    let ab : b.now ≡ (state g.S.Store c.args.conn.now).now = (c.all_of.ensures.same.same clean_b (c.in_ok-rows.ensures.open clean_d).0 l c.requires.schema).0 in
    let has_b = ap (λ (x : Database). x.schema) ab ∙ c.requires.schema in
    let bd : d.now ≡ b.now = (c.all_of-2.ensures.same.same clean_d (c.in_ok-orders.ensures.open clean).0 l has_b).0 in
    c.in_ok-orders.ensures.settled clean l (ap (λ (x : Database). x.schema) bd ∙ has_b)
