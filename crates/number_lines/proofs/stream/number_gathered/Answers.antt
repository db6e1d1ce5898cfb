use Rattle.std.proofs.Common.{◌≡◌, ◌∙◌, None, arith, inr, refl}
use Rattle.sqlite.specs.Held.{state}
use Rattle.number_lines.proofs.NumberingLemmas.{half_said, half_written, numbers_of, unwritten}
use Rattle.number_lines.proofs.stream.number_gathered.Goals as goal

pub returns-in-Err-numbered_text-clause-stops : goal.returns-in-Err-numbered_text-clause-stops
returns-in-Err-numbered_text-clause-stops g c =
    let n = c.args.numberer.now in
    let e = c.in-Ok.ensures in
    let numbers = numbers_of None n.base c.args.gathered.now.lists c.in-Ok.answers (state g.S.Store n.table.conn) (state g.S.Store c.number_each.new.self.table.conn) n.counted c.number_each.new.self.counted e.one_each e.each (λ clean. omega (arith, c.number_each.ensures.crash.clean, clean)) e.effect in
    inr (refl, unwritten None n.base c.args.gathered.now.tells c.args.gathered.now.lists c.in-Ok.answers _ _ _ _ _ _ numbers)

pub returns-in-Err-fault_text-clause-stops : goal.returns-in-Err-fault_text-clause-stops
returns-in-Err-fault_text-clause-stops g c =
    let n = c.args.numberer.now in
    let e = c.in-Ok.ensures in
    let numbers = numbers_of None n.base c.args.gathered.now.lists c.in-Ok.answers (state g.S.Store n.table.conn) (state g.S.Store c.number_each.new.self.table.conn) n.counted c.number_each.new.self.counted e.one_each e.each (λ clean. omega (arith, c.number_each.ensures.crash.clean, clean)) e.effect in
    inr (refl, unwritten None n.base c.args.gathered.now.tells c.args.gathered.now.lists c.in-Ok.answers _ _ _ _ _ _ numbers)

pub returns-in-Err-put-clause-stops : goal.returns-in-Err-put-clause-stops
returns-in-Err-put-clause-stops g c =
    let n = c.args.numberer.now in
    let e = c.in-Ok.ensures in
    let numbers = numbers_of None n.base c.args.gathered.now.lists c.in-Ok.answers (state g.S.Store n.table.conn) (state g.S.Store c.number_each.new.self.table.conn) n.counted c.number_each.new.self.counted e.one_each e.each (λ clean. omega (arith, c.number_each.ensures.crash.clean, clean)) e.effect in
    let w = c.in-Err-put.ensures.err in
    half_written None n.base c.args.gathered.now.tells c.args.gathered.now.lists c.in-Ok.answers _ _ _ _ _ _ _ _ w.0 numbers (c.as_bytes.ensures.value ∙ c.as_str.ensures ∙ c.in-Ok-numbered_text.ensures) w.1

pub returns-clause-stops : goal.returns-clause-stops
returns-clause-stops g c =
    let n = c.args.numberer.now in
    let e = c.in-Ok.ensures in
    let numbers = numbers_of None n.base c.args.gathered.now.lists c.in-Ok.answers (state g.S.Store n.table.conn) (state g.S.Store c.number_each.new.self.table.conn) n.counted c.number_each.new.self.counted e.one_each e.each (λ clean. omega (arith, c.number_each.ensures.crash.clean, clean)) e.effect in
    let w = c.in-Err-put-2.ensures.err in
    half_said None n.base c.args.gathered.now.tells c.args.gathered.now.lists c.in-Ok.answers _ _ _ _ _ _ _ _ _ _ w.0 numbers (c.as_bytes.ensures.value ∙ c.as_str.ensures ∙ c.in-Ok-numbered_text.ensures) c.in-Ok-put.ensures.ok
    (c.as_bytes-2.ensures.value ∙ c.as_str-2.ensures ∙ c.in-Ok-fault_text.ensures) w.1
