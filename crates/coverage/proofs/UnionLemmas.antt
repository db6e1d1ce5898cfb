-- The union of two summaries, an entry of the second at a time.
use Rattle.std.proofs.Common.{◌≡◌, ℕ, Bool, true, false, ◌||◌, ◌&&◌, List, [], ◌∷◌, ◌++◌, refl, sym, ap, subst, ◌∙◌}
use Rattle.std.specs.Str.{bytes_eq}
use Rattle.std.proofs.Math.Bool.{or_assoc, or-false}
use Rattle.coverage.specs.Intervals.{Interval, IsCanonical, holds}
use Rattle.coverage.specs.Numbers.{Entry, Entries, AreListed, holds_in}
use Rattle.coverage.proofs.HoldsLemmas.{holds-nil, holds_first}
use Rattle.coverage.proofs.EntriesLemmas.{holds_in-push, holds_some, is_next, split_more, split_all}

-- the numbers of the one summary, and of those entries of the other that are done
pub record IsUnitedUpTo (own all left both : Entries) : Type 0 where
  pub done : Entries
  pub split : done ++ left ≡ all
  pub summary : AreListed both
  pub members : (s : List ℕ) (n : ℕ) → holds_in both s n ≡ (holds_in own s n || holds_in done s n)

pub united_none : (own all left both : Entries) → left ≡ all → both ≡ own → AreListed own → IsUnitedUpTo own all left both
united_none own all left both whole copied summary = record {
  done = [];
  split = whole;
  summary = subst AreListed (sym copied) summary;
  members = λ s n. ap (λ l. holds_in l s n) copied ∙ sym (ap (λ b. holds_in own s n || b) (holds-nil n) ∙ or-false (holds_in own s n));
}

pub united_more : (own all left old new : Entries) (e : Entry) (rest : Entries) → AreListed all → IsUnitedUpTo own all left old → left ≡ e ∷ rest → AreListed new
    → ((s : List ℕ) (n : ℕ) → holds_in new s n ≡ (holds_in old s n || (bytes_eq s e.0 && holds e.1 n))) → IsUnitedUpTo own all rest new
united_more own all left old new e rest h u is summary added =
    let next = is_next all u.done left e rest h u.split is in record {
      done = u.done ++ e ∷ [];
      split = split_more all u.done left e rest u.split is;
      summary = summary;
      members = λ s n. added s n
          ∙ ap (λ b. b || (bytes_eq s e.0 && holds e.1 n)) (u.members s n)
          ∙ or_assoc (holds_in own s n) (holds_in u.done s n) (bytes_eq s e.0 && holds e.1 n)
          ∙ ap (λ b. holds_in own s n || b) (sym (holds_in-push u.done e s n next.before));
    }

pub united_all : (own all left both : Entries) → IsUnitedUpTo own all left both → left ≡ []
    → (s : List ℕ) (n : ℕ) → holds_in both s n ≡ (holds_in own s n || holds_in all s n)
united_all own all left both u none s n =
    u.members s n ∙ ap (λ l. holds_in own s n || holds_in l s n) (split_all all u.done left u.split none)

-- where one of two joined sets has a number, the union has one
pub some_joined : (old more new : List Interval) → (more ≡ [] → ⊥) → IsCanonical more → ((n : ℕ) → holds new n ≡ (holds old n || holds more n)) → new ≡ [] → ⊥
some_joined old more new some canonical members =
    let held = holds_first more some canonical in
    holds_some new held.0 (members held.0 ∙ ap (λ b. holds old held.0 || b) held.1 ∙ or_true (holds old held.0))
  where
    or_true : (b : Bool) → (b || true) ≡ true
    or_true true = refl
    or_true false = refl
