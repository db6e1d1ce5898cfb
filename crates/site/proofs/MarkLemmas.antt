-- Where pages of what a peer lacks go on.
use Rattle.std.proofs.Common.{◌≡◌, ℕ, ◌+◌, ◌≤◌, List, Option, length, take, drop, min, sym, ap, ◌∙◌}
use Rattle.std.proofs.lemmas.List.{drop-drop, drop_min, length-take}
use Rattle.std.specs.BTreeSet.{BTreeSet}
use Rattle.attributes.specs.Event.{EventValue}
use Rattle.coverage.specs.Summary.{Sources}
use Rattle.inbox.specs.Sets.{set_of}
use Rattle.site.specs.Delta.{delta, lacking_of}
use Rattle.site.specs.Mark.{IsMark}

-- a page further
pub mark_moves : (A events : List EventValue) (peer own : Sources) (among : Option (BTreeSet ℕ)) (from place next limit n : ℕ) → IsMark A peer own among from place → n ≡ length events
    → events ≡ take limit (lacking_of (set_of A) peer (drop place (set_of A)))
    → lacking_of (set_of A) peer (drop next (set_of A)) ≡ drop limit (lacking_of (set_of A) peer (drop place (set_of A)))
    → next ≤ length (set_of A) → IsMark A peer own among (from + n) next
mark_moves A events peer own among from place next limit n mark counted page rest within =
    let X = lacking_of (set_of A) peer (drop place (set_of A)) in
    let few : n ≡ min limit (length X) = counted ∙ ap length page ∙ length-take limit X in
    record {
      all = mark.all;
      tells = mark.tells;
      within = within;
      rest = rest ∙ sym (ap (λ k. drop k X) few ∙ drop_min limit X) ∙ ap (drop n) mark.rest ∙ drop-drop n from (delta (set_of A) peer);
    }
