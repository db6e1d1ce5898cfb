use Rattle.std.proofs.Common.{◌≡◌, ◌==◌, ◌∙◌, ◌++◌, length, rules, subst, sym, List, ℕ}
use Rattle.site_commands.specs.Checks.{AreFaultsOf, TellsGiven}
use Rattle.site_commands.proofs.CheckLemmas.{empty_is, filled_is, finds_sound, finds_unsound}
use Rattle.site_commands.proofs.check.found_in.Goals.{then-is_sound, else-is_sound}
use Rattle.site_commands.proofs.check.found_in.Goals as goal

pub returns : goal.returns
returns g c =
    let b = c.args.plan.now.is_for_number in
    let db = c.args.plan.now.db in
    let names = c.args.names.now in
    let contents = c.args.contents.now in
    let it = c.in_ok-is_sound.field-0 in
    let lines = c.in_ok-lines.lines in
    let text = c.from_string.result in
    let database : TellsGiven db it.is_sound it.text = search rules in
    let faults : AreFaultsOf b names contents lines = search rules in
    let both : text ≡ it.text ++ lines = search rules in
    elim c.if-is_sound.branch [
      | then-is_sound w ↦
          let text_is : w.as_str.result.now ≡ lines = search rules in
          let known : c.if-is_sound.is_faultless ≡ (length lines == 0) = subst (λ (l : List ℕ). c.if-is_sound.is_faultless ≡ (length l == 0)) text_is (w.is_faultless-is ∙ w.is_empty-is_faultless.ensures) in
          finds_sound b db names contents it.is_sound c.if-is_sound.is_faultless it.text lines text database faults both w.if-is_sound.true
          (λ yes. empty_is lines (sym known ∙ yes)) (λ never. filled_is lines (sym known ∙ never))
      | else-is_sound w ↦ finds_unsound b db names contents it.is_sound c.if-is_sound.is_faultless it.text lines text database faults both w.if-is_sound.false (w.is_faultless-is ∙ w.if-is_sound.false)
    ]
