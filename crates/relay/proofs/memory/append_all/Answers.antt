use Rattle.std.proofs.Common.{arith}
use Rattle.relay.proofs.RouteLemmas.{append_one, in_appended, of_appended, all_appended, whole_appended}
use Rattle.relay.proofs.memory.append_all.Goals as goal

pub loop-i-preserved : goal.loop-i-preserved
loop-i-preserved c = append_one c.args.batch.now c.args.events.now c.loop-i.events c.append.new.events c.loop-i.i c.at.result.now c.at.ensures c.loop-i.invariant c.in_ok-append.ensures.ok

pub returns-in_err-append-clause-kept : goal.returns-in_err-append-clause-kept
returns-in_err-append-clause-kept c = rw c.in_err-append.ensures.err (in_appended c.args.batch.now c.args.events.now c.loop-i.events c.loop-i.i c.loop-i.invariant)

pub returns-in_err-append-clause-new : goal.returns-in_err-append-clause-new
returns-in_err-append-clause-new c = rw c.in_err-append.ensures.err (of_appended c.args.batch.now c.args.events.now c.loop-i.events c.loop-i.i c.loop-i.invariant)

pub returns-clause-accepted : goal.returns-clause-accepted
returns-clause-accepted c = all_appended c.args.batch.now c.args.events.now c.loop-i.events c.loop-i.i (omega arith) c.loop-i.invariant

pub returns-clause-kept : goal.returns-clause-kept
returns-clause-kept c = in_appended c.args.batch.now c.args.events.now c.loop-i.events c.loop-i.i c.loop-i.invariant

pub returns-clause-new : goal.returns-clause-new
returns-clause-new c = of_appended c.args.batch.now c.args.events.now c.loop-i.events c.loop-i.i c.loop-i.invariant

pub returns-clause-appended : goal.returns-clause-appended
returns-clause-appended c = whole_appended c.args.batch.now c.args.events.now c.loop-i.events c.loop-i.i (omega arith) c.loop-i.invariant
