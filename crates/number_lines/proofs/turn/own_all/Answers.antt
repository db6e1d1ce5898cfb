use Rattle.std.proofs.Common.{sym, subst}
use Rattle.number_lines.specs.Judged.{AreOwn}
use Rattle.number_lines.proofs.GatherLemmas.{own_same}
use Rattle.number_lines.proofs.turn.own_all.Goals as goal

pub returns-in-None : goal.returns-in-None
returns-in-None c = subst (λ aside. AreOwn aside c.args.given c.args.given) (sym c.in-None.is) (own_same c.args.given)
