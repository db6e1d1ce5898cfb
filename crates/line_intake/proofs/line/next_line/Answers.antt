use Rattle.std.proofs.Common.{◌++◌, take, sym, subst, rules}
use Rattle.std.specs.Io.KnownBytes.{prepend_known}
use Rattle.line_intake.specs.Lines.{IsNext, IsPartOf}
use Rattle.line_intake.proofs.LineLemmas.{last_taken, line_taken, none_plain, within_more}
use Rattle.line_intake.proofs.line.next_line.Goals as goal

pub returns-in-Some : goal.returns-in-Some
returns-in-Some g c =
    let w = c.loop.invariant in
    let r = g.R.Read.remaining c.loop.reader in
    let first = prepend_known c.args.pending.now (g.R.Read.remaining c.args.reader.now) in
    let held : IsPartOf c.gain.new.line.items c.in_ok-is_long-in-Some.is_long (w.bytes ++ take c.in-Some.at c.loop.pending) =
    subst (λ l. IsPartOf c.gain.new.line.items c.in_ok-is_long-in-Some.is_long (w.bytes ++ l)) c.front.ensures (c.in_ok-is_long-in-Some.ensures w.bytes w.part) in
    subst (IsNext first (prepend_known c.pass.new.self r)) (sym c.ended.ensures)
    (line_taken first r w.bytes c.loop.pending c.gain.new.line.items c.pass.new.self c.in-Some.at c.in_ok-is_long-in-Some.is_long w.plain w.taken (sym c.in-Some.ensures) held c.pass.ensures)

pub returns-then-not-branch : goal.returns-then-not-branch
returns-then-not-branch g c =
    let w = c.loop.invariant in
    let first = prepend_known c.args.pending.now (g.R.Read.remaining c.args.reader.now) in
    let mid = prepend_known c.loop.pending (g.R.Read.remaining c.loop.reader) in
    let last = prepend_known c.refill.new.self (g.R.Read.remaining c.refill.new.reader) in
    let held : IsPartOf c.gain-in-None.new.line.items c.in_ok-is_long-in-None.is_long (w.bytes ++ c.loop.pending) =
    subst (λ l. IsPartOf c.gain-in-None.new.line.items c.in_ok-is_long-in-None.is_long (w.bytes ++ l)) c.rest.ensures (c.in_ok-is_long-in-None.ensures w.bytes w.part) in
    subst (IsNext first last) (sym c.last.ensures)
    (last_taken first mid last w.bytes c.loop.pending c.gain-in-None.new.line.items c.in_ok-is_long-in-None.is_long w.plain (none_plain c.loop.pending (sym c.in-None.ensures)) w.taken
    c.in_ok-refill-in-None.ensures.0 (c.in_ok-refill-in-None.ensures.1 (search rules)) held)

pub loop-preserved : goal.loop-preserved
loop-preserved g c =
    let w = c.loop.invariant in
    within_more _ _ _ c.loop.line.items c.gain-in-None.new.line.items c.loop.pending c.loop.is_long c.in_ok-is_long-in-None.is_long w
    (λ bs part. subst (λ l. IsPartOf c.gain-in-None.new.line.items c.in_ok-is_long-in-None.is_long (bs ++ l)) c.rest.ensures (c.in_ok-is_long-in-None.ensures bs part))
    (none_plain c.loop.pending (sym c.in-None.ensures)) c.in_ok-refill-in-None.ensures.0
