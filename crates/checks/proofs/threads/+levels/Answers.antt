use mathlib.Core.List.{[], ◌∷◌}
use denote.Builtin.{u32, u64}
use denote.Exit.{no}
use denote.Param.{param}
use denote.Param.Send.{arg_send, param_send, param_sync, sendable, shr_send}
use denote.Struct.Field.{shr_ref_field}
use Rattle.std.proofs.Crossing.{sync}
use Rattle.std.specs.contracts.alloc.Global as heap
use Rattle.site_lock.specs.contracts.pass.Pass as pass
use Rattle.site_lock.specs.contracts.shared.SharedSite as shared
use Rattle.checks.specs.contracts.threads.Work as work
use Rattle.checks.proofs.CaptureLemmas.{closure_is_send}
use Rattle.checks.proofs.threads.+levels.Goals as goal

-- what the closure captures: the runtime, the memory, the site, the pass, the number, the work and the levels
pub join-first-requires-send-F : goal.join-first-requires-send-F
join-first-requires-send-F g t c κs = λ out. closure_is_send 1 _ _ (
    (shr_ref_field _ (param 0 g.row.R) tt).row ∷ (shr_ref_field _ heap.the_row tt).row ∷ (shr_ref_field _ shared.the_row tt).row ∷ pass.the_row
    ∷ (shr_ref_field _ u64 tt).row ∷ (shr_ref_field _ work.the_row tt).row ∷ (shr_ref_field _ u32 tt).row ∷ []) (
      shr_send _ _ _ (param_sync 0 _ c.requires.runtime),
      (
        shr_send _ _ _ sync,
        (
          shr_send _ _ _ c.threads_share_a_site.ensures.shared,
          (
            c.threads_share_a_site.ensures.pass,
            (search sendable depth 20, (search sendable depth 20, (search sendable depth 20, tt))),
          ),
        ),
      ),
    )

pub join-first-requires-send-A : goal.join-first-requires-send-A
join-first-requires-send-A g t c κs = λ out. param_send 3 _ (arg_send _ no _ c.threads_share_a_site.ensures.pass)
