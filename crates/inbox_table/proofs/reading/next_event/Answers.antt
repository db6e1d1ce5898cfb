use Rattle.std.proofs.Common.{◌≡◌, ◌∙◌, Some, ap, option_copied, subst, sym}
use Rattle.sqlite.specs.Given.{Advances, row_if}
use Rattle.inbox_table.proofs.reading.next_event.Goals as goal

pub returns-in-Err-clause-foreign : goal.returns-in-Err-clause-foreign
returns-in-Err-clause-foreign g c clean is =
    let here : row_if c.advance.new.self.has_row c.advance.new.self.conn.now ≡ Some c.in-Some.row.now = sym c.get.ensures ∙ ap option_copied c.in-Some.is in
    let moves = subst (Advances g.S.Store c.args.rows.now.conn.now c.advance.new.self.conn.now) here (c.in_ok-advance.ensures.ok clean) in
    (c.in-Some.row.now, moves, c.in-Err.ensures.foreign is)
