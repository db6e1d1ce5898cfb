use Rattle.std.proofs.Common.{◌≡◌, ◌<◌, ◌-◌, ◌+◌, ◌∙◌, ℕ, suc, List, Some, None, ap, arith, inl, inr, refl, rules, subst}
use Rattle.std.specs.Prelude.{Option}
use Rattle.site_commands.specs.Endings.{Writes}
use Rattle.site_commands.specs.Lines.{memory_line}
use Rattle.site_commands.proofs.EndingLemmas.{Keeps-same, Paging-failed, Paging-more, Paging-none}
use Rattle.site_commands.proofs.ending.print_pages.Goals as goal

pub returns-in-Ok-None : goal.returns-in-Ok-None
returns-in-Ok-None g c =
    let there : ◌≡◌ {A = Option (List ℕ)} None c.in-Ok-None.field-0 = search rules in
    inl (
      refl,
      Paging-none _ _ c.args.left.now c.loop-page.left _ c.loop-page.invariant.0 (there ∙ c.in-Ok-None.ensures.line),
      Keeps-same _ _ c.loop-page.invariant.1,
    )

pub returns-in-Err-put : goal.returns-in-Err-put
returns-in-Err-put g c =
    let lt : c.loop-page.page < c.most-most.result = search rules in
    let next : c.most-most.result - c.loop-page.page ≡ suc (c.most-most.result - (c.loop-page.page + 1)) = omega (arith, lt) in
    let there : Some c.in-Ok-Some.line ≡ c.in-Ok-Some.field-0 = search rules in
    let line = ap (λ l. Some l) (c.as_bytes.ensures.value ∙ c.as_str.ensures) ∙ there ∙ c.in-Ok-Some.ensures.line in
    let failed = c.in-Err-put.ensures.err in
    inr (
      refl,
      inl (
        Paging-failed _ _ _ c.args.left.now c.loop-page.left _ _ c.as_bytes.result.now failed.0 c.loop-page.invariant.0 next line failed.1,
        Keeps-same _ _ c.loop-page.invariant.1,
      ),
    )

pub returns-in-Err : goal.returns-in-Err
returns-in-Err g c =
    let said : Writes c.print.result 1 (g.E.Write.contents c.args.err.now) (g.E.Write.contents c.print.new.to) memory_line =
    subst (λ o. Writes c.print.result 1 o (g.E.Write.contents c.print.new.to) memory_line) c.loop-page.invariant.1 c.print.ensures in
    inr (
      elim said [ inl w ↦ w.0 | inr w ↦ w.0 ],
      inr (c.loop-page.invariant.0.done, c.loop-page.invariant.0.grown, said),
    )

pub loop-page-preserved : goal.loop-page-preserved
loop-page-preserved g c =
    let lt : c.loop-page.page < c.most-most.result = search rules in
    let next : c.most-most.result - c.loop-page.page ≡ suc (c.most-most.result - (c.loop-page.page + 1)) = omega (arith, lt) in
    let there : Some c.in-Ok-Some.line ≡ c.in-Ok-Some.field-0 = search rules in
    let line = ap (λ l. Some l) (c.as_bytes.ensures.value ∙ c.as_str.ensures) ∙ there ∙ c.in-Ok-Some.ensures.line in (
      Paging-more _ _ _ c.args.left.now c.loop-page.left c.next_line.new.self _ _ c.as_bytes.result.now c.loop-page.invariant.0 next line
          c.in-Ok-Some.ensures.rest c.in-Ok.ensures.ok,
      c.loop-page.invariant.1,
    )
