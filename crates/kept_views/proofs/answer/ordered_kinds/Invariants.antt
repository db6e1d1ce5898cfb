use Rattle.std.proofs.Common.{◌≡◌, [], map}
use Rattle.attributes.specs.Bytes.{byte_cmp}
use Rattle.kept_views.specs.steps.Rows.{put_all}
use Rattle.kept_views.specs.steps.Seen.{kinds_in}
use Rattle.kept_views.proofs.answer.ordered_kinds.Given as goal

abbrev pub invariant-loop-kind : goal.invariant-loop-kind
invariant-loop-kind l = put_all byte_cmp (map (λ e. (e.0.now, e.1)) l.table.entries) (kinds_in l.kind-iterator) ≡ put_all byte_cmp [] (kinds_in l.kinds.entries)
