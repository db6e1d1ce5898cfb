-- The orders of the answers are total.
use Rattle.std.specs.Cmp.{IsTotalOrder}
use Rattle.std.proofs.lemmas.Cmp.{nat_list_cmp_total, int_cmp_total, then_total, on_total}
use Rattle.views.specs.Latest.{entity_cmp}
use Rattle.views.specs.Tally.{day_cmp}

pub day_cmp_total : IsTotalOrder day_cmp
day_cmp_total = then_total (on_total (λ k. k.0) nat_list_cmp_total) (on_total (λ k. k.1) int_cmp_total)

pub entity_cmp_total : IsTotalOrder entity_cmp
entity_cmp_total = then_total (on_total (λ k. k.0) nat_list_cmp_total) (on_total (λ k. k.1) nat_list_cmp_total)
