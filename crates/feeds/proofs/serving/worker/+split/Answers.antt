use Rattle.std.proofs.Common.{[], ◌∷◌, ap, arith, length, length-append, refl}
use Rattle.feeds.specs.steps.Serve.{pending_works}
use Rattle.feeds.proofs.ServeLemmas.{each_at_length, job_more, job_of}
use Rattle.feeds.proofs.serving.worker.+split.Goals as goal

pub put-requires : goal.put-requires
put-requires t c = let jobs = c.split_all-jobs.result in
    omega (arith, each_at_length _ _ _ _ c.split_all-jobs.ensures.jobs, jobs.ok.0, c.split_all-jobs.ensures.room, c.requires.room, ap length c.in-Some.ensures, length-append (pending_works c.take_last.new.self) (c.in-Some.work ∷ []))

pub returns-clause-jobs : goal.returns-clause-jobs
returns-clause-jobs t c = let e = c.split_all-jobs.ensures in
    job_more _ _ _ _ _ (record { worker = c.len-worker.result; work = c.in-Some.work; pass = c.in-Ok.theirs }) e.jobs (job_of _ _ _ _ _ (omega (arith, c.len-worker.ensures, c.split_all-jobs.result.ok.0, each_at_length _ _ _ _ e.jobs)) e.same.0 e.splits c.in-Ok.ensures.new refl) c.in-Some.ensures c.put.ensures.items
