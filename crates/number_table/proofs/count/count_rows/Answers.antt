use Rattle.std.proofs.Common.{◌≡◌, ◌≤◌, ◌+◌, ◌*◌, arith, length, subst, take}
use Rattle.sqlite.specs.Held.{state}
use Rattle.sqlite.specs.State.{HasCleanDisk}
use Rattle.numbers.specs.Counts.{IsCountOfRows}
use Rattle.numbers.proofs.CountLemmas.{nothing_counted}
use Rattle.number_table.specs.Calls.{from}
use Rattle.number_table.proofs.LookLemmas.{looks_none, looks_then}
use Rattle.number_table.proofs.PageLemmas.{all_counted, page_counted, page_refused, rows_still}
use Rattle.number_table.proofs.StandLemmas.{was_clean}
use Rattle.number_table.proofs.count.count_rows.Goals as goal

pub loop-k-init : goal.loop-k-init
loop-k-init g c =
    let s = state g.S.Store c.args.table.now.conn in
    (looks_none s, λ clean still. still, λ clean rows has_rows. nothing_counted c.args.base c.in_ok-counted.counted c.in_ok-counted.ensures.0 c.in_ok-counted.ensures.1 c.in_ok-counted.ensures.2)

pub returns-then-not-branch-clause-none : goal.returns-then-not-branch-clause-none
returns-then-not-branch-clause-none g c clean rows has_rows =
    let old = state g.S.Store c.args.table.now.conn in
    let mid = state g.S.Store c.loop-k.table.conn in
    let read = state g.S.Store c.page_after.new.table.conn in
    let new = state g.S.Store c.count_page.new.table.conn in
    let was = c.loop-k.invariant in
    let clean_read = was_clean read new (λ _. ⊥) c.count_page.ensures.looks.survives clean in
    let clean_mid = was_clean mid read (λ _. ⊥) c.page_after.ensures.looks.survives clean_read in
    let before = rows_still old mid rows was.0 has_rows in
    page_refused c.args.base (c.loop-k.k * 1000) 1000 rows c.in_ok-page.page read c.loop-k.counted (c.in_ok-page.ensures.shows clean_read rows before) (rows_still mid read rows c.page_after.ensures.looks before) (was.2 clean_mid rows has_rows) (c.in_ok-count_page.ensures.refused clean c.if-not-branch.true)

pub loop-k-preserved : goal.loop-k-preserved
loop-k-preserved g c =
    let old = state g.S.Store c.args.table.now.conn in
    let mid = state g.S.Store c.loop-k.table.conn in
    let read = state g.S.Store c.page_after.new.table.conn in
    let new = state g.S.Store c.count_page.new.table.conn in
    let was = c.loop-k.invariant in
    let clean_read = λ (clean : HasCleanDisk new). was_clean read new (λ _. ⊥) c.count_page.ensures.looks.survives clean in
    let clean_mid = λ (clean : HasCleanDisk new). was_clean mid read (λ _. ⊥) c.page_after.ensures.looks.survives (clean_read clean) in
    let next : c.loop-k.k * 1000 + 1000 ≡ (c.loop-k.k + 1) * 1000 = omega arith in (
      looks_then old mid new was.0 (looks_then mid read new c.page_after.ensures.looks c.count_page.ensures.looks),
      λ clean still. c.in_ok-count_page.ensures.open clean (c.in_ok-page.ensures.open (clean_read clean)),
      λ clean rows has_rows.
          let before = rows_still old mid rows was.0 has_rows in
          subst (λ n. IsCountOfRows (from c.args.base) (take n rows) c.count_page.new.counted) next
          (page_counted c.args.base (c.loop-k.k * 1000) 1000 rows c.in_ok-page.page read c.loop-k.counted c.count_page.new.counted (c.in_ok-page.ensures.shows (clean_read clean) rows before) (rows_still mid read rows c.page_after.ensures.looks before) (was.2 (clean_mid clean) rows has_rows)
          (c.in_ok-count_page.ensures.counts clean c.if-not-branch.false)),
    )

pub returns-clause-counted : goal.returns-clause-counted
returns-clause-counted g c clean rows has_rows many =
    let past : length rows ≤ c.loop-k.k * 1000 = omega (arith, many, c.div_ceil-k-end.ensures, c.rows-rows.ensures.rows) in
    all_counted c.args.base (c.loop-k.k * 1000) rows c.loop-k.counted past (c.loop-k.invariant.2 clean rows has_rows)
