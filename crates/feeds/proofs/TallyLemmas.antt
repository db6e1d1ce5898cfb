-- What a worker counts, one step more at a time.
use Rattle.std.proofs.Common.{◌≡◌, suc, ◌+◌, ◌-◌, ◌<◌, ◌≤◌, List, [], ◌∷◌, ◌++◌, true, false, not, cond, if◌then◌else◌, length, take, drop, sym, refl, ap, ◌∙◌, subst, append_assoc, append-nil, arith, inl, inr, length-append}
use Rattle.std.specs.Prelude.{Option, Some, None, Ok, Err}
use Rattle.std.proofs.lemmas.List.{length-take, take-append-drop}
use Rattle.std.proofs.lemmas.List.Elements.{filter-append}
use Rattle.std.specs.declared.cmp.Ordering.{Ordering}
use Rattle.attributes.specs.Event.{EventValue}
use Rattle.inbox.specs.KeyOrder.{key_cmp}
use Rattle.inbox.specs.Ordered.{append_new, has}
use Rattle.inbox.specs.declared.inbox.Counts as inbox
use Rattle.inbox.specs.declared.inbox.Short.{Short}
use Rattle.site.specs.Desk.{took}
use Rattle.site.specs.Machine.{Follows, call, handled_by}
use Rattle.site.specs.declared.call.Call.{Call}
use Rattle.site.specs.declared.call.Command.TheVariants as command
use Rattle.site.specs.declared.desk.DeskFault.{DeskFault}
use Rattle.site.specs.declared.desk.DeskFault.TheVariants as desk
use Rattle.feeds.specs.Report.{AreTakes, EndsEarly, HasCause, TellsReport, fresh_of, handled, is_with_number, repeated_of, reported, sequenced, unsequenced}
use Rattle.feeds.specs.declared.report.WorkerEnd.{WorkerEnd}
use Rattle.feeds.specs.declared.report.WorkerEnd.TheVariants.{Done, GateShut, OutOfMemory}
use Rattle.feeds.specs.declared.report.Report.{Report}
use Rattle.feeds.specs.declared.report.Tally.{Tally}
use Rattle.feeds.specs.steps.Tally.{Flushed, FlushedIfFull, Going, Passes, StopsBy, short_of}
use Rattle.feeds.proofs.CauseLemmas.{answered-append, early_by, last_refused, stop_behind}

module _ {K : Type 0} (R : K → K → Ordering) where
  length-append_new : (A xs : List K) → length (append_new R A xs) ≤ length A + length xs
  length-append_new A [] = omega arith
  length-append_new A (x ∷ xs) =
      elim (has R A x) as (λ b. length (append_new R (if b then A else A ++ x ∷ []) xs) ≤ length A + suc (length xs)) [
        | true ↦ omega (arith, length-append_new A xs)
        | false ↦ omega (arith, length-append_new (A ++ x ∷ []) xs, length-append A (x ∷ []))
      ]

pub refused_within : (A B L : List EventValue) (fault : DeskFault) → Follows A (call (command.Take L) (took (Err fault))) B
    → ((short_of fault).fresh ≤ (short_of fault).taken) × ((short_of fault).taken < length L)
refused_within A B L (desk.OutOfMemory taken fresh) h = let D : List EventValue = A ++ h.0 in
    (omega (arith, length-append_new key_cmp D (take taken L), length-take taken L, h.1.0, h.1.1), h.1.1)

pub flushed_ok : (A B L left : List EventValue) (counts : inbox.Counts) (t u : Tally) (o : Option WorkerEnd) → length L ≤ 100 → Follows A (call (command.Take L) (took (Ok counts))) B
    → left ≡ [] → u.fresh ≡ t.fresh + counts.fresh → u.repeated ≡ t.repeated + counts.repeated → u.refused ≡ t.refused → o ≡ None
    → Flushed (call (command.Take L) (took (Ok counts)) ∷ []) L left t u o
flushed_ok A B L left counts t u o few h e fresh repeated refused nothing = record {
  handles = record { takes = (few, tt); rest = []; order = append-nil (L ++ []) ∙ append-nil L };
  counted = record {
    fresh = omega (arith, fresh);
    repeated = omega (arith, repeated);
    refused = refused;
    all = omega (arith, h.1.1, ap length (append-nil L));
  };
  whole = λ _. (append-nil L, e);
  stop = subst (λ (z : Option WorkerEnd). StopsBy (call (command.Take L) (took (Ok counts)) ∷ []) z) (sym nothing) ((λ r. r), tt);
}

pub flushed_short : (A B L left : List EventValue) (fault : DeskFault) (short : Short) (t u : Tally) (o : Option WorkerEnd) → length L ≤ 100 → Follows A (call (command.Take L) (took (Err fault))) B
    → short ≡ short_of fault → u.fresh ≡ t.fresh + short.fresh → u.repeated ≡ t.repeated + (short.taken - short.fresh) → u.refused ≡ t.refused → o ≡ Some OutOfMemory
    → Flushed (call (command.Take L) (took (Err fault)) ∷ []) L left t u o
flushed_short A B L left (desk.OutOfMemory taken fresh) short t u o few h is grew again refused some = record {
  handles = record { takes = (few, tt); rest = drop taken L; order = ap (λ z. z ++ drop taken L) (append-nil (take taken L)) ∙ take-append-drop taken L };
  counted = record {
    fresh = omega (arith, grew, ap (λ z. z.fresh) is);
    repeated = omega (arith, again, ap (λ z. z.fresh) is, ap (λ z. z.taken) is);
    refused = refused;
    all = let within = refused_within A B L (desk.OutOfMemory taken fresh) h in omega (arith, within.0, within.1, ap length (append-nil (take taken L)), length-take taken L);
  };
  whole = λ k. absurd (cc);
  stop = let c : Call = call (command.Take L) (took (Err (desk.OutOfMemory taken fresh))) in subst (λ (z : Option WorkerEnd). StopsBy (c ∷ []) z) (sym some) (last_refused c tt);
}

pub flushed_not : (L left : List EventValue) (t u : Tally) (o : Option WorkerEnd) → u.fresh ≡ t.fresh → u.repeated ≡ t.repeated → u.refused ≡ t.refused → o ≡ Some GateShut
    → Flushed [] L left t u o
flushed_not L left t u o fresh repeated refused shut = record {
  handles = record { takes = tt; rest = L; order = refl };
  counted = record { fresh = omega (arith, fresh); repeated = omega (arith, repeated); refused = refused; all = refl };
  whole = λ k. absurd (cc);
  stop = subst (λ (z : Option WorkerEnd). StopsBy [] z) (sym shut) tt;
}

pub handled-append : (m n : List Call) → handled (m ++ n) ≡ handled m ++ handled n
handled-append [] n = refl
handled-append (c ∷ cs) n = ap (λ z. handled_by c.command c.reply ++ z) (handled-append cs n) ∙ sym (append_assoc (handled_by c.command c.reply) (handled cs) (handled n))

pub fresh-append : (m n : List Call) → fresh_of (m ++ n) ≡ fresh_of m + fresh_of n
fresh-append [] n = omega arith
fresh-append (c ∷ cs) n = omega (arith, fresh-append cs n)

pub repeated-append : (m n : List Call) → repeated_of (m ++ n) ≡ repeated_of m + repeated_of n
repeated-append [] n = omega arith
repeated-append (c ∷ cs) n = omega (arith, repeated-append cs n)

pub takes-append : (m n : List Call) → AreTakes m → AreTakes n → AreTakes (m ++ n)
takes-append [] n h k = k
takes-append (c ∷ cs) n h k = (h.0, takes-append cs n h.1 k)

one_kept : (e : EventValue) → is_with_number e ≡ true → sequenced (e ∷ []) ≡ e ∷ []
one_kept e h = ap (λ b. cond b (e ∷ []) []) h

one_passed : (e : EventValue) → is_with_number e ≡ false → sequenced (e ∷ []) ≡ []
one_passed e h = ap (λ b. cond b (e ∷ []) []) h

not_refused : (e : EventValue) → is_with_number e ≡ true → unsequenced (e ∷ []) ≡ []
not_refused e h = ap (λ b. cond (not b) (e ∷ []) []) h

one_refused : (e : EventValue) → is_with_number e ≡ false → unsequenced (e ∷ []) ≡ e ∷ []
one_refused e h = ap (λ b. cond (not b) (e ∷ []) []) h

-- each event has a number or none
both_kinds : (L : List EventValue) → length (sequenced L) + length (unsequenced L) ≡ length L
both_kinds [] = refl
both_kinds (e ∷ es) = elim (is_with_number e) as (λ b. length (cond b (e ∷ sequenced es) (sequenced es)) + length (cond (not b) (e ∷ unsequenced es) (unsequenced es)) ≡ suc (length es)) [
  | true ↦ omega (arith, both_kinds es)
  | false ↦ omega (arith, both_kinds es)
]

pub going_start : (t : Tally) → t ≡ record { calls = 0; fresh = 0; repeated = 0; refused = 0 } → Going [] [] [] t
going_start t is = record { takes = tt; order = refl; fresh = ap (λ z. z.fresh) is; repeated = ap (λ z. z.repeated) is; all = refl; refused = ap (λ z. z.refused) is; answered = tt }

-- all that was passed is counted or waits
pub bounded : (L : List EventValue) (m : List Call) (b : List EventValue) (t : Tally) → Going L m b t → t.fresh + t.repeated + length b + t.refused ≡ length L
bounded L m b t g = omega (arith, ap length g.order, length-append (handled m) b, g.fresh, g.repeated, g.all, g.refused, both_kinds L)

skips : (L : List EventValue) (e : EventValue) (m : List Call) (b : List EventValue) (t u : Tally) → Going L m b t → is_with_number e ≡ false → u ≡ record t { refused = t.refused + 1 } → Going (L ++ e ∷ []) m b u
skips L e m b t u g no_number is = record {
  takes = g.takes;
  order = g.order ∙ sym (filter-append is_with_number L (e ∷ []) ∙ ap (λ z. sequenced L ++ z) (one_passed e no_number) ∙ append-nil (sequenced L));
  fresh = ap (λ z. z.fresh) is ∙ g.fresh;
  repeated = ap (λ z. z.repeated) is ∙ g.repeated;
  all = g.all;
  refused = let more = ap length (filter-append (λ d. not (is_with_number d)) L (e ∷ []) ∙ ap (λ z. unsequenced L ++ z) (one_refused e no_number)) in
      omega (arith, ap (λ z. z.refused) is, g.refused, more, length-append (unsequenced L) (e ∷ []));
  answered = g.answered;
}

keeps : (L : List EventValue) (e : EventValue) (m : List Call) (b c : List EventValue) (t : Tally) → Going L m b t → is_with_number e ≡ true → c ≡ b ++ e ∷ [] → Going (L ++ e ∷ []) m c t
keeps L e m b c t g numbered is = record {
  takes = g.takes;
  order = ap (λ z. handled m ++ z) is ∙ sym (append_assoc (handled m) b (e ∷ [])) ∙ ap (λ z. z ++ e ∷ []) g.order
      ∙ sym (filter-append is_with_number L (e ∷ []) ∙ ap (λ z. sequenced L ++ z) (one_kept e numbered));
  fresh = g.fresh;
  repeated = g.repeated;
  all = g.all;
  refused = g.refused ∙ ap length (sym (filter-append (λ d. not (is_with_number d)) L (e ∷ []) ∙ ap (λ z. unsequenced L ++ z) (not_refused e numbered) ∙ append-nil (unsequenced L)));
  answered = g.answered;
}

pub goes : (L : List EventValue) (e : EventValue) (m : List Call) (b c : List EventValue) (t u : Tally) → Going L m b t → Passes e b c t u → Going (L ++ e ∷ []) m c u
goes L e m b c t u g (inl p) = subst (λ z. Going (L ++ e ∷ []) m z u) (sym p.1) (skips L e m b t u g p.0 p.2)
goes L e m b c t u g (inr p) = subst (λ z. Going (L ++ e ∷ []) m c z) (sym p.2) (keeps L e m b c t g p.0 p.1)

pub goes_length : (e : EventValue) (b c : List EventValue) (t u : Tally) → Passes e b c t u → length c ≤ length b + 1
goes_length e b c t u (inl p) = omega (arith, ap length p.1)
goes_length e b c t u (inr p) = omega (arith, ap length p.1, length-append b (e ∷ []))

pub still : (L : List EventValue) (m : List Call) (b c : List EventValue) (t u : Tally) → Going L m b t → (c ≡ b) × (u ≡ t) → Going L m c u
still L m b c t u g e = subst (λ z. Going L m z u) (sym e.0) (subst (λ z. Going L m b z) (sym e.1) g)

pub flushes : (L : List EventValue) (m n : List Call) (b left : List EventValue) (t u : Tally) → Going L m b t → Flushed n b left t u None → Going L (m ++ n) left u
flushes L m n b left t u g f = let w = f.whole refl in let k = f.counted in record {
  takes = takes-append m n g.takes f.handles.takes;
  order = ap (λ z. handled (m ++ n) ++ z) w.1 ∙ append-nil (handled (m ++ n)) ∙ handled-append m n ∙ ap (λ z. handled m ++ z) w.0 ∙ g.order;
  fresh = omega (arith, fresh-append m n, g.fresh, k.fresh);
  repeated = omega (arith, repeated-append m n, g.repeated, k.repeated);
  all = omega (arith, fresh-append m n, repeated-append m n, ap length (handled-append m n), length-append (handled m) (handled n), g.all, k.all);
  refused = k.refused ∙ g.refused;
  answered = answered-append m n g.answered f.stop;
}

pub stops : (all L rest : List EventValue) (m n : List Call) (b left : List EventValue) (t u : Tally) (e : WorkerEnd) (r : Report) → L ++ rest ≡ all → Going L m b t → Flushed n b left t u (Some e) → r ≡ reported u e
    → TellsReport all (m ++ n) r
stops all L rest m n b left t u e r split g f is = let k = f.counted in let hs = f.handles in record {
  passed = L;
  behind = rest;
  split = split;
  handles = record {
    takes = takes-append m n g.takes hs.takes;
    rest = hs.rest;
    order = ap (λ z. z ++ hs.rest) (handled-append m n) ∙ append_assoc (handled m) (handled n) hs.rest ∙ ap (λ z. handled m ++ z) hs.order ∙ g.order;
  };
  counts = record {
    fresh = ap (λ z. z.fresh) is ∙ omega (arith, fresh-append m n, g.fresh, k.fresh);
    repeated = ap (λ z. z.repeated) is ∙ omega (arith, repeated-append m n, g.repeated, k.repeated);
    handled = omega (arith, ap (λ z. z.fresh) is, ap (λ z. z.repeated) is, k.fresh, k.repeated, g.fresh, g.repeated, g.all, k.all, ap length (handled-append m n), length-append (handled m) (handled n));
    read = subst (λ z. z.read ≡ z.fresh + z.repeated + z.refused) (sym is) refl;
  };
  refused = ap (λ z. z.refused) is ∙ k.refused ∙ g.refused;
  most = omega (arith, ap (λ z. z.read) is, bounded L m b t g, k.fresh, k.repeated, k.refused, k.all, ap length hs.order, length-append (handled n) hs.rest, ap length split, length-append L rest);
  ended = inr (subst EndsEarly (sym (ap (λ z. z.ended) is)) (early_by n e f.stop));
  cause = subst (λ z. HasCause (m ++ n) z) (sym (ap (λ z. z.ended) is)) (stop_behind m n e g.answered f.stop);
  done = λ d. absurd (subst EndsEarly (sym (ap (λ z. z.ended) is) ∙ d) (early_by n e f.stop));
}

pub stops_here : (all L rest : List EventValue) (m : List Call) (b : List EventValue) (t : Tally) (e : WorkerEnd) (r : Report) → L ++ rest ≡ all → Going L m b t → EndsEarly e → r ≡ reported t e → TellsReport all m r
stops_here all L rest m b t e r split g early is = record {
  passed = L;
  behind = rest;
  split = split;
  handles = record { takes = g.takes; rest = b; order = g.order };
  counts = record {
    fresh = ap (λ z. z.fresh) is ∙ g.fresh;
    repeated = ap (λ z. z.repeated) is ∙ g.repeated;
    handled = omega (arith, ap (λ z. z.fresh) is, ap (λ z. z.repeated) is, g.fresh, g.repeated, g.all);
    read = subst (λ z. z.read ≡ z.fresh + z.repeated + z.refused) (sym is) refl;
  };
  refused = ap (λ z. z.refused) is ∙ g.refused;
  most = omega (arith, ap (λ z. z.read) is, bounded L m b t g, ap length split, length-append L rest);
  ended = inr (subst EndsEarly (sym (ap (λ z. z.ended) is)) early);
  cause = inl g.answered;
  done = λ d. absurd (subst EndsEarly (sym (ap (λ z. z.ended) is) ∙ d) early);
}

pub empty_is : {X : Type 0} (b : List X) → length b ≡ 0 → b ≡ []
empty_is [] e = refl
empty_is (x ∷ xs) e = absurd (omega (arith, e))

pub ends : (all L rest : List EventValue) (m : List Call) (b : List EventValue) (t : Tally) (r : Report) → L ++ rest ≡ all → rest ≡ [] → Going L m b t → length b ≡ 0 → r ≡ reported t Done → TellsReport all m r
ends all L rest m b t r split none g empty is = let same : L ≡ all = sym (append-nil L) ∙ ap (λ z. L ++ z) (sym none) ∙ split in
    let handled_all : handled m ≡ sequenced L = sym (append-nil (handled m)) ∙ ap (λ z. handled m ++ z) (sym (empty_is b empty)) ∙ g.order in record {
      passed = L;
      behind = [];
      split = append-nil L ∙ same;
      handles = record { takes = g.takes; rest = b; order = g.order };
      counts = record {
        fresh = ap (λ z. z.fresh) is ∙ g.fresh;
        repeated = ap (λ z. z.repeated) is ∙ g.repeated;
        handled = omega (arith, ap (λ z. z.fresh) is, ap (λ z. z.repeated) is, g.fresh, g.repeated, g.all);
        read = subst (λ z. z.read ≡ z.fresh + z.repeated + z.refused) (sym is) refl;
      };
      refused = ap (λ z. z.refused) is ∙ g.refused;
      most = omega (arith, ap (λ z. z.read) is, bounded L m b t g, ap length same);
      ended = inl (ap (λ z. z.ended) is);
      cause = inl g.answered;
      done = λ _. (handled_all ∙ ap sequenced same, omega (arith, ap (λ z. z.read) is, bounded L m b t g, ap length same, empty));
    }

pub moves : (L rest left all : List EventValue) (e : EventValue) → rest ≡ e ∷ left → L ++ rest ≡ all → (L ++ e ∷ []) ++ left ≡ all
moves L rest left all e next split = append_assoc L (e ∷ []) left ∙ ap (λ z. L ++ z) (sym next) ∙ split

pub room_behind : (L rest left all : List EventValue) (e : EventValue) → rest ≡ e ∷ left → L ++ rest ≡ all → length L + 1 ≤ length all
room_behind L rest left all e next split = omega (arith, ap length split, length-append L rest, ap length next)

-- what was passed and waits is counted within the bound of all
pub room : (all L rest : List EventValue) (m : List Call) (b : List EventValue) (t : Tally) → Going L m b t → L ++ rest ≡ all → (t.fresh + t.repeated + length b + t.refused ≤ length all) × (t.refused ≤ length L)
room all L rest m b t g split = (omega (arith, bounded L m b t g, ap length split, length-append L rest), omega (arith, bounded L m b t g))

pub full : (L : List EventValue) (m n : List Call) (b left : List EventValue) (t u : Tally) (o : Option WorkerEnd) → o ≡ None → Going L m b t → FlushedIfFull n b left t u o
    → Going L (m ++ n) left u × (length left < 100)
full L m n b left t u o is g (inl f) =
    let k : Flushed n b left t u None = subst (λ z. Flushed n b left t u z) is f in (flushes L m n b left t u g k, omega (arith, ap length (k.whole refl).1))
full L m n b left t u o is g (inr f) = (
  subst (λ z. Going L z left u) (sym (ap (λ z. m ++ z) f.0 ∙ append-nil m)) (still L m b left t u g (f.1, f.2)),
  omega (arith, ap length f.1, f.4),
)

pub full_stops : (n : List Call) (b left : List EventValue) (t u : Tally) (o : Option WorkerEnd) (e : WorkerEnd) → o ≡ Some e → FlushedIfFull n b left t u o → Flushed n b left t u (Some e)
full_stops n b left t u o e is (inl f) = subst (λ z. Flushed n b left t u z) is f
full_stops n b left t u o e is (inr f) = let a : None ≡ Some e = sym f.3 ∙ is in absurd (cc)
