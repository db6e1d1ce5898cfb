-- What a pass went through, one after another.
use Rattle.std.specs.Prelude.{◌≡◌, List, [], ◌∷◌, ◌++◌, map, refl}
use Rattle.std.proofs.Common.{sym, ap, ◌∙◌, append_assoc, append-nil}
use Rattle.site.specs.declared.call.Call.{Call}
use Rattle.turn_lock.specs.declared.machine.Entry.{Entry}
use Rattle.turn_lock.specs.History.{entry}
use Rattle.site_lock.specs.Pass.{ShownPass, Steps}

map-append : {X Y : Type 0} (f : X → Y) (xs ys : List X) → map f (xs ++ ys) ≡ map f xs ++ map f ys
map-append f [] ys = refl
map-append f (x ∷ xs) ys = ap (λ l. f x ∷ l) (map-append f xs ys)

pub steps_none : (p : ShownPass) → Steps p p []
steps_none p = record {
  seen = ([], sym (append-nil p.seen));
  mine = sym (append-nil p.mine);
  splits = refl;
  same = record { table = refl; number = refl; opening = refl };
}

pub steps_on : (p q r : ShownPass) (m n : List Call) → Steps p q m → Steps q r n → Steps p r (m ++ n)
steps_on p q r m n h k = record {
  seen = (
    h.seen.0 ++ k.seen.0,
    k.seen.1 ∙ (ap (λ (z : List (Entry Call)). z ++ k.seen.0) h.seen.1
        ∙ append_assoc p.seen h.seen.0 k.seen.0),
  );
  mine = k.mine ∙ ((λ i. h.mine i ++ map (entry (h.same.number i)) n)
      ∙ (append_assoc p.mine (map (entry p.number) m) (map (entry p.number) n)
      ∙ ap (λ (z : List (Entry Call)). p.mine ++ z) (sym (map-append (entry p.number) m n))));
  splits = k.splits ∙ h.splits;
  same = record {
    table = k.same.table ∙ h.same.table;
    number = k.same.number ∙ h.same.number;
    opening = k.same.opening ∙ h.same.opening;
  };
}
