-- What the table has of a site that was shared and is closed.
use Rattle.std.proofs.Common.{◌≡◌, ℕ, List, ◌++◌, sym, ap, subst, ◌∙◌, append_assoc}
use Rattle.sqlite.specs.Held.{Held}
use Rattle.sqlite.specs.State.{State}
use Rattle.atomic_table.specs.Seated.{TableId}
use Rattle.attributes.specs.Event.{EventValue}
use Rattle.site.specs.declared.call.Call.{Call}
use Rattle.turn_lock.specs.declared.machine.Entry.{Entry}
use Rattle.site_lock.specs.Pass.{Closes, IsFirstPass, IsSamePass, IsSplitOff, Meets, ShownPass, Splits, leave, leaves}
use Rattle.keeper.specs.Flush.{Flushes, Flushing}
use Rattle.keeper.specs.Keep.{HasFirst, KeepsUp}
use Rattle.keeper.specs.Law.{FirstArrivalsStay}

module _ {S : Type 0} (state : Held S → State) (stay : FirstArrivalsStay) (A0 A : List EventValue) (t : TableId) (p0 p1 p2 p3 own last : ShownPass) (f g : Flushing S)
    (first : IsFirstPass p0 t A0) (splits : Splits p0 p1) (off : IsSplitOff p0 own) (mine : f.pass ≡ own) (flushes : Flushes state f g) (same : IsSamePass p1 p2)
    (is : last ≡ g.pass) (meets : Meets p2 last p3) (closes : Closes p3 A) where
  opening : p3.opening ≡ A0
  opening = meets.same.opening ∙ (same.opening ∙ (splits.same.opening ∙ first.opening))

  own_opening : last.opening ≡ A0
  own_opening = ap (λ (p : ShownPass). p.opening) is ∙ (flushes.same.opening ∙ (ap (λ (p : ShownPass). p.opening) mine ∙ (off.opening ∙ first.opening)))

  of_own : A ≡ leave last.opening (last.seen ++ (meets.all_others.0 ++ closes.others))
  of_own = closes.leaves ∙ (ap (λ (z : List EventValue). leave z (p3.seen ++ closes.others)) (opening ∙ sym own_opening)
      ∙ ap (leave last.opening) (ap (λ (z : List (Entry Call)). z ++ closes.others) meets.all_others.1 ∙ append_assoc last.seen meets.all_others.0 closes.others))

  -- the first arrivals of the site that comes out are those that the flusher's pass has seen
  pub still : (conn : Held S) (rows : ℕ) → KeepsUp (state conn) rows (leaves last) → KeepsUp (state conn) rows A
  still conn rows keeps clean is_open = subst (λ (z : List EventValue). HasFirst (state conn).now rows z) (sym of_own)
      (stay (state conn).now rows last.opening last.seen (meets.all_others.0 ++ closes.others) (keeps clean is_open))
