use Rattle.std.proofs.Common.{◌≡◌, subst}
use Rattle.site.specs.Machine.{Runs}
use Rattle.feeds.proofs.PullLemmas.{pull_brings, pull_leaves}
use Rattle.feeds.proofs.pulling.pull_from.Goals as goal

pub returns-clause-same : goal.returns-clause-same
returns-clause-same g c = let p = c.pull.ensures in pull_leaves _ _ _ _ _ p.2 p.4

pub returns-clause-pulled : goal.returns-clause-pulled
returns-clause-pulled g c = let p = c.pull.ensures in
    let same : c.pull.new.from ≡ c.args.from.now = pull_leaves _ _ _ _ _ p.2 p.4 in
    (p.0, p.1, p.3, (subst (λ B. Runs c.args.from.now p.0 B) same p.2, p.4, (λ d. pull_brings _ _ _ _ _ _ p.2 p.4 p.5 d)), p.6)
