use Rattle.std.proofs.Common.{◌≡◌, List, length, take}
use Rattle.std.specs.Prelude.{None, map}
use Rattle.site.specs.declared.call.Call.{Call}
use Rattle.site.specs.declared.call.Command.TheVariants as command
use Rattle.feeds.specs.Ask.{answers_of, commands_of}
use Rattle.feeds.specs.Report.{AreAnswered}
use Rattle.feeds.specs.steps.Gate.{GoesThrough}
use Rattle.feeds.proofs.asking.ask.Given as goal

abbrev pub invariant-loop-place : goal.invariant-loop-place
invariant-loop-place g l = (m : List Call) × g.D.Desk.went l.initial.desk l.desk m
    × (commands_of m ≡ map command.Query (take l.place l.queries)) × (l.answers ≡ answers_of m) × (length l.answers ≡ l.place) × AreAnswered m
    × GoesThrough (g.G.Gate.lets l.gate) (g.G.Gate.shuts l.gate) (g.G.Gate.heard l.gate) l.worker 0 (length m) l.place None
