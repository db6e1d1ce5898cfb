use Rattle.std.proofs.Common.{rules, ◌≡◌, ◌∙◌, false, true, subst}
use Rattle.std.specs.Option.{is_some}
use Rattle.event_files.specs.Shelves.{AreContents}
use Rattle.site_commands.specs.Names.{files_of_run}
use Rattle.site_program.proofs.WorkerLemmas.{few_contents, refuses_run, some_contents}
use Rattle.site_program.proofs.workers.run.Goals as goal

pub run_with_peer-requires-after_bounds : goal.run_with_peer-requires-after_bounds
run_with_peer-requires-after_bounds g c κs within =
    let C = g.S.Shelf.is_content c.args.shelf.now in
    let contents = c.in-Ok-contents_of.contents.items in
    let read : AreContents C (files_of_run c.args.peer.now c.args.files.now) contents = subst (λ names. AreContents C names contents) (c.as_slice.ensures ∙ c.in-Ok.ensures) c.in-Ok-contents_of.ensures.ok in
    let with_peer : is_some c.args.peer.now ≡ true = search rules in
    (some_contents C c.args.peer.now c.args.files.now contents read with_peer, few_contents C c.args.peer.now c.args.files.now contents read c.requires)

pub run_feeds-requires-after_bounds : goal.run_feeds-requires-after_bounds
run_feeds-requires-after_bounds g c κs within =
    let C = g.S.Shelf.is_content c.args.shelf.now in
    let contents = c.in-Ok-contents_of.contents.items in
    let read : AreContents C (files_of_run c.args.peer.now c.args.files.now) contents = subst (λ names. AreContents C names contents) (c.as_slice.ensures ∙ c.in-Ok.ensures) c.in-Ok-contents_of.ensures.ok in
    few_contents C c.args.peer.now c.args.files.now contents read c.requires

pub returns-then-is_some-clause-err : goal.returns-then-is_some-clause-err
returns-then-is_some-clause-err g c =
    let C = g.S.Shelf.is_content c.args.shelf.now in
    let contents = c.in-Ok-contents_of.contents.items in
    let read : AreContents C (files_of_run c.args.peer.now c.args.files.now) contents = subst (λ names. AreContents C names contents) (c.as_slice.ensures ∙ c.in-Ok.ensures) c.in-Ok-contents_of.ensures.ok in
    let with_peer : is_some c.args.peer.now ≡ true = search rules in
    refuses_run C (g.S.Shelf.is_unread c.args.shelf.now) c.args.peer.now c.args.files.now contents c.args.has_lines true c.run_with_peer.result with_peer read c.run_with_peer.ensures.err

pub returns-in-Ok-contents_of-clause-err : goal.returns-in-Ok-contents_of-clause-err
returns-in-Ok-contents_of-clause-err g c =
    let C = g.S.Shelf.is_content c.args.shelf.now in
    let contents = c.in-Ok-contents_of.contents.items in
    let read : AreContents C (files_of_run c.args.peer.now c.args.files.now) contents = subst (λ names. AreContents C names contents) (c.as_slice.ensures ∙ c.in-Ok.ensures) c.in-Ok-contents_of.ensures.ok in
    let alone : is_some c.args.peer.now ≡ false = search rules in
    refuses_run C (g.S.Shelf.is_unread c.args.shelf.now) c.args.peer.now c.args.files.now contents c.args.has_lines false c.run_feeds.result alone read c.run_feeds.ensures.err
