use Rattle.std.proofs.Common.{ℕ, List, Some, ap, refl, subst, sym, ◌∙◌}
use Rattle.std.specs.Prelude.{map}
use Rattle.std.specs.Borrow.{Bor}
use Rattle.command_words.specs.Commands.{app_for}
use Rattle.command_words.specs.Plans.{IsWait, command_of}
use Rattle.command_words.proofs.ClapLemmas.{Blames-weaker, app_for-simple, fault_by, is_simple_by, refused_by, rows_by}
use Rattle.command_words.proofs.PlanLemmas.{first_word, has_matched, is_asked, planned}
use Rattle.command_words.proofs.words.invocation.Goals as goal

pub returns-in_default-of_word-clause-err : goal.returns-in_default-of_word-clause-err
returns-in_default-of_word-clause-err c =
    Blames-weaker _ _ c.no_command-in_default-of_word.result
    (λ cause asked is. c.in_default-of_word.ensures.none refl (command_of asked.plan)
    (first_word asked c.args.words.now c.in-Some.first.now c.in-Some.ensures.value is ∙ sym c.as_str.ensures))
    c.no_command-in_default-of_word.ensures

pub returns-in-Err-clause-err : goal.returns-in-Err-clause-err
returns-in-Err-clause-err c =
    let given = ap (λ (list : List (Bor (List ℕ))). map (λ s. s.now) list) c.as_slice-2.ensures.value ∙ c.in_ok-strs.ensures in
    let command = c.in-Some-of_word.command in
    let word = sym c.in-Some.ensures.value ∙ ap Some (sym c.as_str.ensures ∙ sym c.in-Some-of_word.ensures.some) in
    Blames-weaker _ _ c.faulty_of.result
    (λ cause asked is.
    let parser = c.in_ok-parser.ensures ∙ ap app_for (is_asked asked command c.args.words.now word is) in
    refused_by _ (app_for (command_of asked.plan)) c.args.words.now _ c.in-Err.error parser given (app_for-simple (command_of asked.plan)) c.in-Err.ensures.kinds cause is.is_for.is_plan.faultless)
    c.faulty_of.ensures

pub returns-in-Err-matched-clause-err : goal.returns-in-Err-matched-clause-err
returns-in-Err-matched-clause-err c =
    let given = ap (λ (list : List (Bor (List ℕ))). map (λ s. s.now) list) c.as_slice-2.ensures.value ∙ c.in_ok-strs.ensures in
    let command = c.in-Some-of_word.command in
    let word = sym c.in-Some.ensures.value ∙ ap Some (sym c.as_str.ensures ∙ sym c.in-Some-of_word.ensures.some) in
    let rows = rows_by _ (app_for command) c.args.words.now _ c.in-Ok.matches c.in_ok-parser.ensures given (is_simple_by (app_for command) (app_for-simple command)) c.in-Ok.ensures.matches in
    Blames-weaker _ _ c.in-Err-matched.faulty
    (λ none asked is. let it = has_matched asked command c.args.words.now _ word rows is in none asked.plan it.0 it.1.0)
    c.in-Err-matched.ensures.err

pub returns-in-Ok-wait-clause-ok : goal.returns-in-Ok-wait-clause-ok
returns-in-Ok-wait-clause-ok c =
    let given = ap (λ (list : List (Bor (List ℕ))). map (λ s. s.now) list) c.as_slice-2.ensures.value ∙ c.in_ok-strs.ensures in
    let command = c.in-Some-of_word.command in
    let word = sym c.in-Some.ensures.value ∙ ap Some (sym c.as_str.ensures ∙ sym c.in-Some-of_word.ensures.some) in
    planned _ command c.args.words.now _ c.in-Ok-matched.ensures.command word
    (fault_by _ (app_for command) c.args.words.now _ c.in_ok-parser.ensures given (app_for-simple command) c.in-Ok.ensures.kinds)
    (rows_by _ (app_for command) c.args.words.now _ c.in-Ok.matches c.in_ok-parser.ensures given (is_simple_by (app_for command) (app_for-simple command)) c.in-Ok.ensures.matches)
    c.in-Ok-matched.ensures.texts (subst (λ t. IsWait t c.in-Ok-wait.wait) c.str_of.ensures c.in-Ok-wait.ensures.ok)

pub returns-clause-err : goal.returns-clause-err
returns-clause-err c =
    let given = ap (λ (list : List (Bor (List ℕ))). map (λ s. s.now) list) c.as_slice-2.ensures.value ∙ c.in_ok-strs.ensures in
    let command = c.in-Some-of_word.command in
    let word = sym c.in-Some.ensures.value ∙ ap Some (sym c.as_str.ensures ∙ sym c.in-Some-of_word.ensures.some) in
    let rows = rows_by _ (app_for command) c.args.words.now _ c.in-Ok.matches c.in_ok-parser.ensures given (is_simple_by (app_for command) (app_for-simple command)) c.in-Ok.ensures.matches in
    Blames-weaker _ _ c.in-Err-wait.faulty
    (λ none asked is. let it = has_matched asked command c.args.words.now _ word rows is in none asked.wait (subst (λ t. IsWait t asked.wait) (sym c.str_of.ensures) it.1.1))
    c.in-Err-wait.ensures.err
