-- Key order is a total order, and equal keys with equal texts are equal events.
use Rattle.std.proofs.Common.{◌≡◌}
use Rattle.std.specs.declared.cmp.Ordering.{Ordering}
use Rattle.std.specs.declared.cmp.Ordering.TheVariants.{Less, Equal, Greater}
use Rattle.std.specs.Cmp.{IsTotalOrder}
use Rattle.std.specs.Ordering.{ordering_then}
use Rattle.std.proofs.lemmas.Cmp.{on_total, then_total, nat_list_cmp_total}
use Rattle.std.proofs.lemmas.Map.Lookups.{exact_bytes}
use Rattle.attributes.specs.Event.{EventValue, id_of, source_of, text}
use Rattle.attributes.specs.Fault.{IsEvent}
use Rattle.inbox.specs.KeyOrder.{pair_cmp, text_cmp, key_cmp}
use Rattle.inbox.specs.steps.Rows.{Row, pair_rows, text_rows, row_cmp}

pub pair_rows_total : IsTotalOrder pair_rows
pair_rows_total = then_total (on_total (λ (r : Row). r.0) nat_list_cmp_total) (on_total (λ (r : Row). r.1) nat_list_cmp_total)

pub text_rows_total : IsTotalOrder text_rows
text_rows_total = on_total (λ (r : Row). r.2) nat_list_cmp_total

pub row_cmp_total : IsTotalOrder row_cmp
row_cmp_total = then_total pair_rows_total text_rows_total

pub pair_cmp_total : IsTotalOrder pair_cmp
pair_cmp_total = then_total (on_total source_of nat_list_cmp_total) (on_total id_of nat_list_cmp_total)

pub text_cmp_total : IsTotalOrder text_cmp
text_cmp_total = on_total text nat_list_cmp_total

pub key_cmp_total : IsTotalOrder key_cmp
key_cmp_total = then_total pair_cmp_total text_cmp_total

second_equal : (r s : Ordering) → ordering_then r s ≡ Equal → s ≡ Equal
second_equal Less s h = cc
second_equal Equal s h = h
second_equal Greater s h = cc

-- what ties has equal texts
pub text_ties : (e f : EventValue) → key_cmp e f ≡ Equal → text_cmp e f ≡ Equal
text_ties e f h = second_equal (pair_cmp e f) (text_cmp e f) h

-- where texts tell events apart, so does key order
pub tied_events : ((e f : EventValue) → IsEvent e → IsEvent f → text e ≡ text f → e ≡ f)
    → (e f : EventValue) → IsEvent e → IsEvent f → key_cmp e f ≡ Equal → e ≡ f
tied_events tells e f p q h = tells e f p q (exact_bytes (text e) (text f) (text_ties e f h))
