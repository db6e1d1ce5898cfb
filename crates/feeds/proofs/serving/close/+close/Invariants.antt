use Rattle.std.proofs.Common.{length}
use Rattle.feeds.proofs.serving.close.+close.Given as goal

abbrev pub decreases-close_all : goal.decreases-close_all
decreases-close_all l = length l.all.items
