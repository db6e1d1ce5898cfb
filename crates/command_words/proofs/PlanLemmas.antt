-- From what a command's values are to what the words ask for.
use Rattle.std.proofs.Common.{◌≡◌, List, [], refl, sym, ap, subst, ◌∙◌}
use Rattle.std.specs.Prelude.{Some, codes, slice_get}
use Rattle.clap.specs.Words.{Row, Text, fault_of, matches_of}
use Rattle.command_words.specs.Commands.{app_for, word_of}
use Rattle.command_words.specs.Plans.{HasTextsOf, IsInvocation, IsWait, command_of, text_in}
use Rattle.command_words.specs.declared.command.Command.{Command}
use Rattle.command_words.specs.declared.request.Invocation.{Invocation}
use Rattle.command_words.proofs.ClapLemmas.{command_by_word}

-- a plan of the values that were matched, with its seconds, is what the words ask for
pub planned : (asked : Invocation) (command : Command) (words : List Text) (rows : List Row)
    → command_of asked.plan ≡ command → slice_get words 0 ≡ Some (word_of command)
    → fault_of (app_for command) words ≡ [] → rows ≡ matches_of (app_for command) words
    → HasTextsOf rows asked.plan → IsWait (text_in rows (codes "wait")) asked.wait → IsInvocation words asked
planned asked command words rows is_command word faultless matches texts wait =
    let same = matches ∙ ap (λ c. matches_of (app_for c) words) (sym is_command) in record {
      is_word = word ∙ ap (λ c. Some (word_of c)) (sym is_command);
      is_for = record {
        is_plan = record {
          is_command = refl;
          faultless = ap (λ c. fault_of (app_for c) words) is_command ∙ faultless;
          texts = subst (λ l. HasTextsOf l asked.plan) same texts;
        };
        wait = subst (λ l. IsWait (text_in l (codes "wait")) asked.wait) same wait;
      };
    }

-- what the words ask for has their first as its word
pub first_word : (asked : Invocation) (words : List Text) (first : Text)
    → Some first ≡ slice_get words 0 → IsInvocation words asked → word_of (command_of asked.plan) ≡ first
first_word asked words first at is =
    let same : Some first ≡ Some (word_of (command_of asked.plan)) = at ∙ is.is_word in
    (cc)

-- what the words ask for is the command of their first
pub is_asked : (asked : Invocation) (command : Command) (words : List Text)
    → slice_get words 0 ≡ Some (word_of command) → IsInvocation words asked → command ≡ command_of asked.plan
is_asked asked command words word is =
    command_by_word command (command_of asked.plan) (sym (first_word asked words (word_of command) (sym word) is))

-- what the words ask for has the values that were matched
pub has_matched : (asked : Invocation) (command : Command) (words : List Text) (rows : List Row)
    → slice_get words 0 ≡ Some (word_of command) → rows ≡ matches_of (app_for command) words → IsInvocation words asked
    → (command_of asked.plan ≡ command) × (HasTextsOf rows asked.plan × IsWait (text_in rows (codes "wait")) asked.wait)
has_matched asked command words rows word matches is =
    let same = is_asked asked command words word is in
    let back = ap (λ c. matches_of (app_for c) words) (sym same) ∙ sym matches in (
      sym same,
      (subst (λ l. HasTextsOf l asked.plan) back is.is_for.is_plan.texts, subst (λ l. IsWait (text_in l (codes "wait")) asked.wait) back is.is_for.wait),
    )
