use Rattle.std.proofs.Common.{◌≡◌, ◌≤◌, ◌+◌, ap, refl, subst, sym, ◌∙◌, arith}
use Rattle.relay_fan.specs.Fan.{AreSent, rows_between}
use Rattle.relay.specs.Relay.{RelayMark}
use Rattle.relay_fan.proofs.LaneLemmas.{carries_page, carries_stop, of_in, stops_at}
use Rattle.relay_fan.proofs.fan.lane.send_next.Goals as goal

pub returns-in-Ok-send_page-clause-carried : goal.returns-in-Ok-send_page-clause-carried
returns-in-Ok-send_page-clause-carried g c =
    let rows = c.args.rows.now in
    let start = c.args.start in
    let page = c.in-Ok.page.rows in
    let gate = c.args.gate.now in
    let lane = c.args.lane in
    let call : c.in-Some.call ≡ lane.calls + 1 = c.in-Some.ensures.1 in
    let from : c.mark.result ≡ lane.relay.mark = c.mark.ensures in
    let to : c.at.result.mark ≡ c.in-Ok.page.last = ap (λ (m : RelayMark). m.mark) c.at.ensures in
    let site : c.at.result.site ≡ lane.relay.site = ap (λ (m : RelayMark). m.site) c.at.ensures ∙ c.site.ensures in
    let there : AreSent start rows lane.relay.mark c.at.result.mark page = subst (λ n. AreSent start rows lane.relay.mark n page) (sym to) (subst (λ n. AreSent start rows n c.in-Ok.page.last page) from c.in-Ok.ensures.there) in
    let exact : page ≡ rows_between start rows lane.relay.mark c.at.result.mark = c.in-Ok.ensures.exact ∙ ap (λ n. rows_between start rows n c.in-Ok.page.last) from ∙ ap (rows_between start rows lane.relay.mark) (sym to) in
    let let_in : g.G.Gate.lets gate lane.place (lane.calls + 1) = subst (λ n. g.G.Gate.lets gate lane.place n) call c.in-Ok-send_page.ensures.gated.0 in
    let told : g.G.Gate.heard gate lane.place (lane.calls + 1) = subst (λ n. g.G.Gate.heard gate lane.place n) call c.in-Ok-send_page.ensures.gated.1 in
    carries_page g.R.Route.accepted g.R.Route.takes g.R.Route.has_failed (g.G.Gate.lets gate) (g.G.Gate.shuts gate) (g.G.Gate.heard gate) start rows page lane _ c.requires.going refl refl call let_in told site
    (omega (arith, from, to, c.in-Ok.ensures.last.0)) (omega (arith, to, c.in-Ok.ensures.last.1)) there c.in-Ok.ensures.rows exact c.in-Ok.ensures.sized
    c.in-Ok-send_page.ensures.took c.in-Ok-send_page.ensures.sent c.send_page.ensures.kept c.send_page.ensures.new

pub returns-in-Err-clause-carried : goal.returns-in-Err-clause-carried
returns-in-Err-clause-carried g c = c.stopped.ensures.carried c.args.start c.args.rows.now

pub returns-in_default-clause-carried : goal.returns-in_default-clause-carried
returns-in_default-clause-carried g c = c.stopped-in_default.ensures.carried c.args.start c.args.rows.now

pub returns-clause-carried : goal.returns-clause-carried
returns-clause-carried g c =
    let gate = c.args.gate.now in
    let lane = c.args.lane in
    let call : c.in-Some.call ≡ lane.calls + 1 = c.in-Some.ensures.1 in
    carries_stop g.R.Route.accepted g.R.Route.takes g.R.Route.has_failed (g.G.Gate.lets gate) (g.G.Gate.shuts gate) (g.G.Gate.heard gate) c.args.start c.args.rows.now lane _ c.in-Err-send_page.fault c.requires.going refl refl refl
    (stops_at g.R.Route.has_failed (g.G.Gate.lets gate) (g.G.Gate.shuts gate) (g.G.Gate.heard gate) lane.place lane.calls c.in-Some.call lane.route _ c.in-Err-send_page.fault call c.in-Err-send_page.ensures.fault)
    c.send_page.ensures.kept (of_in _ _ c.in-Ok.page.rows c.args.rows.now c.send_page.ensures.new c.in-Ok.ensures.rows)
