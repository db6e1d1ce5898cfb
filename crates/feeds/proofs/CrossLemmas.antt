-- What crosses between threads: a job, and what came of it.
use denote.Enum.Declared as enum_declared
use denote.Enum.Enum as enum
use denote.Exit.{no}
use denote.Ref.{NamedLft, ShrRef}
use denote.Param.{arg, param}
use denote.Param.Send.{AllSend, IsSend, IsSync, arg_send, enum_send, param_send, param_sync, recorded_send, sendable, shr_send, struct_send}
use denote.RattleType.{RattleType}
use denote.Struct.Declared as declared
use denote.Struct.Struct.{Struct}
use denote.Struct.Tuple.{TupleAt, field_at, type_at}
use mathlib.Core.List.{List, [], ◌∷◌}
use mir.Syntax.{Sym, Ty}
use Prim.Native.Nat.{ℕ}
use Rattle.std.proofs.Crossing as heap
use Rattle.std.proofs.MapsCrossing as maps
use Rattle.attributes.specs.contracts.batch.Batch as batch
use Rattle.coverage.specs.contracts.intervals.Intervals as intervals
use Rattle.coverage.specs.contracts.summary.Summary as summary
use Rattle.inbox.specs.contracts.conflict.Conflict as conflict
use Rattle.site_lock.specs.Law.{PassesAreSend, SharedSitesAreSync}
use Rattle.site_lock.specs.contracts.shared.SharedSite as shared
use Rattle.std.specs.contracts.alloc.Global as global
use Rattle.std.specs.contracts.sync.atomic.AtomicU64 as count
use Rattle.views.specs.contracts.query.Answer as answer
use Rattle.feeds.specs.contracts.asking.Asked as asked
use Rattle.feeds.specs.contracts.serving.worker.Finished as finished
use Rattle.feeds.specs.contracts.serving.worker.Job as job
use Rattle.feeds.specs.contracts.serving.worker.JobEnd as outcome

-- the answers to questions: no single search finds them
batch_is_send : IsSend batch.the_row
batch_is_send = search (heap.crosses, sendable) depth 60 fits 20000

intervals_is_send : IsSend intervals.the_row
intervals_is_send = search (maps.crosses, heap.crosses, sendable) depth 60 fits 20000

summary_is_send : IsSend summary.the_row
summary_is_send = search (maps.crosses, heap.crosses, sendable) depth 60 fits 20000

conflict_is_send : IsSend conflict.the_row
conflict_is_send = search (heap.crosses, sendable) depth 60 fits 20000

answer_is_send : IsSend answer.the_row
answer_is_send = recorded_send (answer.the_field).row _ _ (answer.the_type).to_one (enum_send (enum_declared.shape answer.the_type) (
  (summary_is_send, tt),
  (
    (batch_is_send, tt),
    (
      (search (conflict_is_send, heap.crosses, sendable) depth 60 fits 20000, tt),
      (
        (batch_is_send, tt),
        (
          (search (heap.crosses, sendable) depth 60 fits 20000, tt),
          (
            (search (heap.crosses, sendable) depth 60 fits 20000, tt),
            (
              (search (intervals_is_send, heap.crosses, sendable) depth 60 fits 20000, tt),
              tt,
            ),
          ),
        ),
      ),
    ),
  ),
))

asked_is_send : IsSend (Struct (declared.shape asked.the_type))
asked_is_send = search (answer_is_send, heap.crosses, sendable) depth 60 fits 20000

outcome_is_send : IsSend (enum.Enum (enum_declared.shape outcome.the_type))
outcome_is_send = enum_send (enum_declared.shape outcome.the_type) ((search (heap.crosses, sendable) depth 60 fits 20000, tt), ((asked_is_send, tt), tt))

pub job_is_send : PassesAreSend → IsSend job.the_row
job_is_send pass = recorded_send (job.the_field).row _ _ (job.the_type).to_one (struct_send (declared.shape job.the_type) (search sendable, (search (maps.crosses, heap.crosses, sendable) depth 60 fits 20000, (pass, tt))))

pub finished_is_send : PassesAreSend → IsSend finished.the_row
finished_is_send pass = recorded_send (finished.the_field).row _ _ (finished.the_type).to_one (struct_send (declared.shape finished.the_type) (outcome_is_send, (pass, tt)))

-- a closure may go to another thread where all that it captures may
closure_is_send : (i : ℕ) (δ : Ty) (name : Sym) (captured : List RattleType) → AllSend (declared.shape (type_at name captured)).fields → IsSend (param i (arg δ no (TupleAt name captured)))
closure_is_send i δ name captured all =
    param_send i _ (arg_send δ no _ (recorded_send (field_at name captured).row _ _ (type_at name captured).to_one (struct_send (declared.shape (type_at name captured)) all)))

-- a worker's closure captures the runtime, the memory, the site, the gate, its job, and
-- the count of those that are left
abbrev captured : NamedLft → NamedLft → NamedLft → NamedLft → RattleType → RattleType → List RattleType
captured a b c d R G = ShrRef a.mir a.lft (param 0 R) ∷ global.the_row ∷ ShrRef b.mir b.lft shared.the_row ∷ ShrRef c.mir c.lft (param 1 G) ∷ job.the_row ∷ ShrRef d.mir d.lft count.the_row ∷ []

pub worker_is_send : (δ : Ty) (name : Sym) (a b c d : NamedLft) (R G : RattleType) → IsSync R → IsSync G → PassesAreSend → SharedSitesAreSync
    → IsSend (param 2 (arg δ no (TupleAt name (captured a b c d R G))))
worker_is_send δ name a b c d R G runtime gate pass site = closure_is_send 2 δ name (captured a b c d R G) (
  shr_send _ _ _ (param_sync 0 R runtime),
  (
    search (heap.crosses, sendable) depth 30,
    (
      shr_send _ _ _ site,
      (
        shr_send _ _ _ (param_sync 1 G gate),
        (
          job_is_send pass,
          (
            search (heap.crosses, sendable) depth 30,
            tt,
          ),
        ),
      ),
    ),
  ),
)
