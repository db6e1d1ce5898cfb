use Rattle.std.proofs.Common.{length}
use Rattle.feeds.specs.steps.Serve.{pending_works}
use Rattle.feeds.proofs.serving.worker.+split.Given as goal

abbrev pub decreases-split_all : goal.decreases-split_all
decreases-split_all l = length (pending_works l.pending)
