use Rattle.std.proofs.Common.{◌≡◌, ◌∙◌, ◌++◌, ◌∷◌, ◌+◌, ℕ, List, [], ap, sym, subst, take, length, refl, append-nil}
use Rattle.inbox.specs.Sets.{set_of}
use Rattle.attributes.specs.Event.{EventValue}
use Rattle.event_files.specs.Files.{EachReads}
use Rattle.file_reports.specs.Reports.{KeepsFiles}
use Rattle.file_reports.proofs.FileLemmas.{GainsSet-permutation, KeepsFiles-more}
use Rattle.event_files.proofs.FileLemmas.{file_there, files_before, files_on, first_fits, length_more, no_rest, refusal_by}
use Rattle.file_reports.proofs.intake.site_of.Goals as goal

pub loop-bytes-init : goal.loop-bytes-init
loop-bytes-init g c =
    ([], c.into_iter-bytes-iterator.ensures.into_iter_gives.0, refl, ([], tt, tt, ap (λ (z : List EventValue). set_of z) c.empty-site.ensures))

pub returns-clause-ok : goal.returns-clause-ok
returns-clause-ok g c =
    let h = c.loop-bytes.invariant in
    subst (λ (fs : List (List ℕ)). KeepsFiles fs c.loop-bytes.site) (no_rest h.0 c.loop-bytes.bytes-iterator.rest.items c.args.files.items (sym c.loop-bytes.bytes-iterator.rest.ok.0 ∙ c.in-None.ensures.steps.0) h.1) h.3

pub returns-in-Err-clause-err : goal.returns-in-Err-clause-err
returns-in-Err-clause-err g c =
    let h = c.loop-bytes.invariant in
    let files = c.args.files.items in
    let rest = c.loop-bytes.bytes-iterator.rest.items in
    let left = c.next.new.self.rest.items in
    let b = c.in-Some.bytes in
    let next = c.in-Some.ensures.steps.0 in
    refusal_by files c.loop-bytes.file b c.in-Err.fault h.3.0 (file_there h.0 rest left files b c.loop-bytes.file next h.1 h.2) c.in-Err.ensures.fault
    (subst (λ (fs : List (List ℕ)). EachReads fs h.3.0) (sym (files_before h.0 rest left files b c.loop-bytes.file next h.1 h.2)) h.3.1)

pub returns-in-Err-clause-memory : goal.returns-in-Err-clause-memory
returns-in-Err-clause-memory g c = λ why.
    let h = c.loop-bytes.invariant in
    let files = c.args.files.items in
    let rest = c.loop-bytes.bytes-iterator.rest.items in
    let left = c.next.new.self.rest.items in
    let b = c.in-Some.bytes in
    let next = c.in-Some.ensures.steps.0 in
    first_fits files c.loop-bytes.file b h.3.0 (file_there h.0 rest left files b c.loop-bytes.file next h.1 h.2)
    (subst (λ (fs : List (List ℕ)). EachReads fs h.3.0) (sym (files_before h.0 rest left files b c.loop-bytes.file next h.1 h.2)) h.3.1)
    (c.in-Err.ensures.memory why)

pub loop-bytes-preserved : goal.loop-bytes-preserved
loop-bytes-preserved g c =
    let h = c.loop-bytes.invariant in
    let files = c.args.files.items in
    let rest = c.loop-bytes.bytes-iterator.rest.items in
    let left = c.next.new.self.rest.items in
    let b = c.in-Some.bytes in
    let next = c.in-Some.ensures.steps.0 in
    let took = c.in-Ok.ensures.ok in
    let spelled = took.spells in (
      h.0 ++ b ∷ [],
      files_on h.0 rest left files b c.loop-bytes.file next h.1 h.2,
      ap (λ (n : ℕ). n + 1) h.2 ∙ sym (length_more h.0 b),
      KeepsFiles-more h.0 b spelled.events c.loop-bytes.site c.take_file.new.site
          h.3 spelled.spells.reads spelled.spells.numbered spelled.spells.are
          (GainsSet-permutation c.sets_are_members.ensures h.0 spelled.events took.events c.loop-bytes.site c.take_file.new.site
          h.3 spelled.spells.are spelled.same took.gains),
    )
