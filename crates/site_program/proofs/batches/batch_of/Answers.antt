use Rattle.std.proofs.Common.{rules, ◌≡◌, ◌+◌, ◌∷◌, [], List, ℕ, refl, subst, sym, append-nil}
use Rattle.std.specs.Option.{option_map_or}
use Rattle.attributes.specs.Event.{EventValue}
use Rattle.event_json.specs.BatchText.{batch_text}
use Rattle.site_program.specs.Jobs.{SpellLines}
use Rattle.site_commands.specs.Pieces.{lines_from, lines_of}
use Rattle.site_program.proofs.FeedLemmas.{first_next, spell_next}
use Rattle.site_program.proofs.batches.batch_of.Goals as goal

pub loop-left-preserved : goal.loop-left-preserved
loop-left-preserved c =
    let file = c.args.file in
    let before = c.loop-left.before in
    let line = c.first_line.result.0.now in
    let all = lines_from file 0 (lines_of c.args.bytes.now) in
    let is : option_map_or (λ rest. lines_of rest.now) c.loop-left.left [] ≡ line ∷ option_map_or (λ rest. lines_of rest.now) c.first_line.result.1 [] = search rules in
    let own = c.in_ok-add_line.ensures.ok in
    record {
      spell = spell_next file before (before + 1) line _ _ all is refl c.loop-left.events own.0 c.add_line.new.events own.1 own.2 c.loop-left.invariant.spell;
      first = first_next file before (before + 1) line _ _ all is refl own.0 own.1 c.loop-left.invariant.first;
      bound = search rules;
    }

pub returns-clause-ok : goal.returns-clause-ok
returns-clause-ok c =
    let events = c.loop-left.events in
    let all = lines_from c.args.file 0 (lines_of c.args.bytes.now) in
    let none : option_map_or (λ rest. lines_of rest.now) c.loop-left.left [] ≡ [] = search rules in
    let spelt : SpellLines all events =
    subst (λ (l : List EventValue). SpellLines all l) (append-nil events)
    (c.loop-left.invariant.spell [] (subst (λ (l : List (List ℕ)). SpellLines (lines_from c.args.file c.loop-left.before l) []) (sym none) refl)) in
    let text : c.from_vec.result ≡ batch_text events = search rules in
    (events, spelt, text)
