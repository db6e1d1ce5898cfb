use Rattle.std.proofs.Common.{◌≡◌, ap, arith, inl, subst}
use Rattle.std.proofs.KnownBytes.{Keeps-refl}
use Rattle.sqlite.specs.Held.{state}
use Rattle.sqlite.specs.State.{State, HasCleanDisk}
use Rattle.number_lines.proofs.OverLemmas.{all_each, over_ok, unread_some, until_each}
use Rattle.number_lines.proofs.over.number_over.Goals as goal

pub returns-in-Ok-clause-did : goal.returns-in-Ok-clause-did
returns-in-Ok-clause-did g c =
    let n = c.in-Ok.numberer in
    let e = c.number_lines-outcome.ensures in
    let m = c.number_lines-outcome.new.numberer in
    over_ok c.args.aside.now c.args.base n.base (state g.S.Store c.args.conn) (state g.S.Store n.table.conn) (state g.S.Store m.table.conn) (state g.S.Store c.into_connection.result) n.counted m.counted _ _ _ _ _ _ c.number_lines-outcome.result
    (ap (state g.S.Store) c.into_connection.ensures) c.in-Ok.ensures.base c.in-Ok.ensures.opens e.clean e.all e.until e.settled

pub returns-in-Ok-clause-all : goal.returns-in-Ok-clause-all
returns-in-Ok-clause-all g c =
    let n = c.in-Ok.numberer in
    let m = c.number_lines-outcome.new.numberer in
    all_each c.args.aside.now n.base (state g.S.Store n.table.conn) (state g.S.Store m.table.conn) n.counted m.counted _ _ _ _ _ c.number_lines-outcome.result c.number_lines-outcome.ensures.all

pub returns-in-Ok-clause-until : goal.returns-in-Ok-clause-until
returns-in-Ok-clause-until g c =
    let n = c.in-Ok.numberer in
    let m = c.number_lines-outcome.new.numberer in
    until_each c.args.aside.now n.base (state g.S.Store n.table.conn) (state g.S.Store m.table.conn) n.counted m.counted _ _ _ _ _ c.number_lines-outcome.result c.number_lines-outcome.ensures.until

pub returns-in-Err-clause-until : goal.returns-in-Err-clause-until
returns-in-Err-clause-until g c = inl (unread_some c.args.aside.now _ _ _ _ _ (Keeps-refl _) (Keeps-refl _))

pub returns-in-Ok-clause-clean : goal.returns-in-Ok-clause-clean
returns-in-Ok-clause-clean g c clean =
    let same = ap (state g.S.Store) c.into_connection.ensures in
    let was = c.number_lines-outcome.ensures.clean (subst (λ (s : State). HasCleanDisk s) same clean) in
    omega (arith, c.in-Ok.ensures.crash.clean, was)
