use Rattle.std.proofs.Common.{◌+◌, ap, ◌∙◌}
use Rattle.outbox.specs.Row.{rows_of}
use Rattle.relay_fan.proofs.WindowLemmas.{next_page}
use Rattle.relay_fan.proofs.fan.window.add_page.Goals as goal

pub returns-in-Ok-append_page-clause-rows : goal.returns-in-Ok-append_page-clause-rows
returns-in-Ok-append_page-clause-rows g c clean shows commands is =
    next_page c.args.service.now.base (rows_of c.args.service.now.source c.args.service.now.base commands) c.args.start 99 c.in-Some.after c.args.rows.now c.in-Ok.page c.append_page.new.rows
    c.requires (c.in-Some.ensures.1 ∙ ap (λ n. c.args.start + n) c.len.ensures) (c.in-Ok.ensures.rows clean commands is) c.in-Ok-append_page.ensures.ok (shows commands is)
