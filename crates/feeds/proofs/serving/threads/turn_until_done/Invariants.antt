use Rattle.feeds.proofs.serving.threads.turn_until_done.Given as goal

abbrev pub invariant-loop : goal.invariant-loop
invariant-loop g l = g.A.Aside.moves l.initial.aside l.aside
