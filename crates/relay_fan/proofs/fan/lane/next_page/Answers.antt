use Rattle.std.proofs.Common.{◌≡◌, ◌≤◌, ◌-◌, ◌+◌, ap, length, sym, subst, ◌∙◌, arith}
use Rattle.relay_fan.specs.Fan.{AreSent, rows_between}
use Rattle.relay_fan.proofs.LaneLemmas.{sent_shift, between_length}
use Rattle.relay_fan.proofs.fan.lane.next_page.Goals as goal

pub returns-in-Ok-clause-there : goal.returns-in-Ok-clause-there
returns-in-Ok-clause-there c =
    let from : c.saturating_sub-from.result ≡ c.args.mark - c.args.start = omega (arith, c.saturating_sub-from.ensures) in
    let h : AreSent 0 c.args.rows.now c.saturating_sub-from.result c.min-to.result c.in-Ok.rows = c.in-Ok.ensures.there in
    let there : AreSent c.args.start c.args.rows.now c.args.mark (c.args.start + c.min-to.result) c.in-Ok.rows = sent_shift c.args.rows.now c.in-Ok.rows c.args.start c.args.mark c.min-to.result (subst (λ n. AreSent 0 c.args.rows.now n c.min-to.result c.in-Ok.rows) from h) in
    subst (λ n. AreSent c.args.start c.args.rows.now c.args.mark n c.in-Ok.rows) (sym c.in-Some.ensures.1) there

pub returns-in-Ok-clause-exact : goal.returns-in-Ok-clause-exact
returns-in-Ok-clause-exact c =
    let from : c.saturating_sub-from.result - 0 ≡ c.args.mark - c.args.start = omega (arith, c.saturating_sub-from.ensures) in
    let to : c.min-to.result - 0 ≡ c.in-Some.last - c.args.start = omega (arith, c.in-Some.ensures.1) in
    c.in-Ok.ensures.exact ∙ ap (λ n. Rattle.std.proofs.Common.drop n (Rattle.std.proofs.Common.take (c.min-to.result - 0) c.args.rows.now)) from ∙ ap (λ n. Rattle.std.proofs.Common.drop (c.args.mark - c.args.start) (Rattle.std.proofs.Common.take n c.args.rows.now)) to

pub returns-in-Ok-clause-sized : goal.returns-in-Ok-clause-sized
returns-in-Ok-clause-sized c =
    let high : c.min-to.result - 0 ≤ length c.args.rows.now = omega (arith, c.min-to.ensures, c.len.ensures) in
    let long : length c.in-Ok.rows ≡ c.min-to.result - 0 - (c.saturating_sub-from.result - 0) = ap length c.in-Ok.ensures.exact ∙ between_length 0 c.args.rows.now c.saturating_sub-from.result c.min-to.result high in
    (omega (arith, long, c.requires, c.min-to.ensures, c.len.ensures, c.saturating_sub-from.ensures, c.saturating_add.ensures), omega (arith, long, c.min-to.ensures, c.saturating_add.ensures))
