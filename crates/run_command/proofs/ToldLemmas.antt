-- What reports without a fault tell of the feeds.
use Rattle.std.proofs.Common.{◌≡◌, ◌≢◌, ◌+◌, ◌-◌, ℕ, zero, suc, slice_get, List, [], ◌∷◌, ◌++◌, length, take, refl, sym, ap, subst, ◌∙◌, arith, length-append, Option, None, Some, inl, inr}
use Rattle.std.specs.Option.{option_or}
use Rattle.std.proofs.lemmas.List.Elements.{filter-append}
use Rattle.attributes.specs.Event.{EventValue}
use Rattle.event_json.specs.Reading.{Reads, Refuses}
use Rattle.event_json.specs.declared.fault.ReadFault.{ReadFault}
use Rattle.event_json.specs.declared.fault.ReadFault.TheVariants as read
use Rattle.feeds.specs.Pull.{HoldsEach}
use Rattle.feeds.specs.Report.{EndsEarly, TellsReport, end_if_unread, is_with_number, sequenced}
use Rattle.feeds.specs.declared.report.WorkerEnd.{WorkerEnd}
use Rattle.feeds.specs.declared.report.WorkerEnd.TheVariants.{BadInput, Done, GateShut, OutOfMemory}
use Rattle.feeds.specs.declared.report.Report.{Report}
use Rattle.run_command.specs.Fault.{of_end}
use Rattle.run_command.specs.Outcome.{AreReports}
use Rattle.run_command.specs.Peer.{ArePulled}
use Rattle.run_command.specs.Run.{EachSpells, IsFed, joined}
use Rattle.run_command.specs.Tally.{first_fault, read_in, refused_in}
use Rattle.run_command.specs.declared.fault.RunFault.{RunFault}
use Rattle.run_command.specs.declared.fault.RunFault.TheVariants as run
use Rattle.run_command.proofs.FedLemmas.{holds_both}

-- the first reports are those of these feeds
abbrev pub AreFed : List EventValue → List (List ℕ) → List Report → Type 0
AreFed arrivals [] rs = Unit {0}
AreFed arrivals (b ∷ bs) [] = ⊥
AreFed arrivals (b ∷ bs) (r ∷ rs) = IsFed arrivals b r × AreFed arrivals bs rs

pub are_fed : (held more : List EventValue) (bs : List (List ℕ)) (ps : List (List EventValue)) (rs : List Report) → AreReports held more bs ps rs → AreFed (held ++ more) bs rs
are_fed held more [] ps rs told = tt
are_fed held more (b ∷ bs) ps [] told = told
are_fed held more (b ∷ bs) ps (r ∷ rs) told = (told.0, are_fed held more bs ps rs told.1)

-- the feeds were read, all their events that have numbers are among the arrivals, and these are the
-- counts
pub record WatchedFlusher (arrivals : List EventValue) (bs : List (List ℕ)) (rs : List Report) : Type 0 where
  pub lists : List (List EventValue)
  pub read : EachSpells bs lists
  pub fed : HoldsEach arrivals (sequenced (joined lists))
  pub all : read_in (take (length bs) rs) ≡ length (joined lists)
  pub none : refused_in (take (length bs) rs) + length (sequenced (joined lists)) ≡ length (joined lists)

-- a report without a fault is one of a worker that was done
done_by : (place feeds : ℕ) (e : WorkerEnd) → of_end place feeds e ≡ None → e ≡ Done
done_by place feeds Done h = refl
done_by place feeds OutOfMemory h = absurd (cc)
done_by place feeds GateShut h = absurd (cc)
done_by place zero (BadInput fault) h = absurd (cc)
done_by place (suc n) (BadInput fault) h = absurd (cc)

not_done : (fault : ReadFault) → end_if_unread fault ≡ Done → ⊥
not_done read.OutOfMemory h = absurd (cc)
not_done read.NotJson h = absurd (cc)
not_done read.NotEvent h = absurd (cc)
not_done (read.BadEvent i f) h = absurd (cc)
not_done read.InputTooLarge h = absurd (cc)

pub no_first : {X : Type 0} → (a b : Option X) → option_or a b ≡ None → (a ≡ None) × (b ≡ None)
no_first None b h = (refl, h)
no_first (Some x) b h = absurd (cc)

-- one feed that was read whole
pub record Whole (arrivals : List EventValue) (b : List ℕ) (r : Report) : Type 0 where
  pub events : List EventValue
  pub reads : Reads b events
  pub fed : HoldsEach arrivals (sequenced events)
  pub all : r.read ≡ length events
  pub none : r.refused + length (sequenced events) ≡ length events

whole : (arrivals : List EventValue) (b : List ℕ) (r : Report) → IsFed arrivals b r → r.ended ≡ Done → Whole arrivals b r
whole arrivals b r fed done = elim fed.1 [
  | inl f ↦ (let t : TellsReport f.0 fed.0 r = f.2 in let d = t.done done in let h = ap (λ (z : List EventValue). length z) d.0 in record {
    events = f.0;
    reads = f.1;
    fed = subst (λ (z : List EventValue). HoldsEach arrivals z) d.0 fed.2;
    all = d.1;
    none = omega (arith, t.counts.read, t.counts.handled, h, d.1);
  })
  | inr u ↦ absurd (not_done u.1.0 (sym (ap (λ (z : Report). z.ended) u.1.1) ∙ done))
]

-- the first report of a feed, and those behind it
at_first : (place n : ℕ) (r : Report) (rs : List Report) → first_fault place (suc n) (r ∷ rs) ≡ option_or (of_end place (suc n) r.ended) (first_fault (place + 1) n rs)
at_first place n r rs = let less : suc n - 1 ≡ n = omega arith in ap (λ k. option_or (of_end place (suc n) r.ended) (first_fault (place + 1) k rs)) less

pub told : (arrivals : List EventValue) (bs : List (List ℕ)) (rs : List Report) (place : ℕ) → AreFed arrivals bs rs → first_fault place (length bs) rs ≡ None → WatchedFlusher arrivals bs rs
told arrivals [] rs place fed none = record { lists = []; read = tt; fed = tt; all = refl; none = refl }
told arrivals (b ∷ bs) [] place fed none = absurd fed
told arrivals (b ∷ bs) (r ∷ rs) place fed none =
    let n = no_first (of_end place (suc (length bs)) r.ended) (first_fault (place + 1) (length bs) rs) (sym (at_first place (length bs) r rs) ∙ none) in
    let w = whole arrivals b r fed.0 (done_by place (suc (length bs)) r.ended n.0) in
    let t = told arrivals bs rs (place + 1) fed.1 n.1 in
    let is : sequenced (w.events ++ joined t.lists) ≡ sequenced w.events ++ sequenced (joined t.lists) = filter-append is_with_number w.events (joined t.lists) in
    let counted = ap (λ (z : List EventValue). length z) is ∙ length-append (sequenced w.events) (sequenced (joined t.lists)) in
    let both = length-append w.events (joined t.lists) in
    record {
      lists = w.events ∷ t.lists;
      read = (w.reads, t.read);
      fed = subst (λ (z : List EventValue). HoldsEach arrivals z) (sym is) (holds_both arrivals (sequenced w.events) (sequenced (joined t.lists)) w.fed t.fed);
      all = omega (arith, w.all, t.all, both);
      none = omega (arith, w.none, t.none, both, counted);
    }

-- the feed that is blamed is one whose bytes were refused, and this is why
pub record Blamed (bs : List (List ℕ)) (place i : ℕ) (f : ReadFault) : Type 0 where
  pub k : ℕ
  pub at : i ≡ place + k
  pub b : List ℕ
  pub there : slice_get bs k ≡ Some b
  pub refuses : Refuses b f

not_memory : (place n : ℕ) (f : ReadFault) (i : ℕ) (g : ReadFault) → of_end place n (end_if_unread f) ≡ Some (run.Feed i g) → (i ≡ place) × (f ≡ g) × (f ≢ read.OutOfMemory)
not_memory place n read.OutOfMemory i g h = absurd (cc)
not_memory place zero read.NotJson i g h = absurd (cc)
not_memory place (suc n) read.NotJson i g h = (cc, cc, λ e. absurd (cc))
not_memory place zero read.NotEvent i g h = absurd (cc)
not_memory place (suc n) read.NotEvent i g h = (cc, cc, λ e. absurd (cc))
not_memory place zero (read.BadEvent j x) i g h = absurd (cc)
not_memory place (suc n) (read.BadEvent j x) i g h = (cc, cc, λ e. absurd (cc))
not_memory place zero read.InputTooLarge i g h = absurd (cc)
not_memory place (suc n) read.InputTooLarge i g h = (cc, cc, λ e. absurd (cc))

is_bad : (place n : ℕ) (e : WorkerEnd) (i : ℕ) (f : ReadFault) → of_end place (suc n) e ≡ Some (run.Feed i f) → e ≡ BadInput f
is_bad place n Done i f h = absurd (cc)
is_bad place n OutOfMemory i f h = absurd (cc)
is_bad place n GateShut i f h = absurd (cc)
is_bad place n (BadInput g) i f h = cc

-- no feed is blamed where there is none
no_end : (place i : ℕ) (f : ReadFault) (rest : Option RunFault) (e : WorkerEnd) → (rest ≡ Some (run.Feed i f) → ⊥) → option_or (of_end place 0 e) rest ≡ Some (run.Feed i f) → ⊥
no_end place i f rest Done never h = never h
no_end place i f rest OutOfMemory never h = absurd (cc)
no_end place i f rest GateShut never h = absurd (cc)
no_end place i f rest (BadInput g) never h = absurd (cc)

none_blamed : (rs : List Report) (place i : ℕ) (f : ReadFault) → first_fault place 0 rs ≡ Some (run.Feed i f) → ⊥
none_blamed [] place i f h = absurd (cc)
none_blamed (r ∷ rs) place i f h = no_end place i f (first_fault (place + 1) 0 rs) r.ended (none_blamed rs (place + 1) i f) h

-- the first of the reports ends so
by_end : (arrivals : List EventValue) (b : List ℕ) (bs : List (List ℕ)) (r : Report) (place i : ℕ) (f : ReadFault) (rest : Option RunFault) → IsFed arrivals b r
    → (rest ≡ Some (run.Feed i f) → Blamed bs (place + 1) i f) → (o : Option RunFault) → of_end place (suc (length bs)) r.ended ≡ o
    → option_or (of_end place (suc (length bs)) r.ended) rest ≡ Some (run.Feed i f) → Blamed (b ∷ bs) place i f
by_end arrivals b bs r place i f rest fed later None e is =
    let t = later (ap (λ (o : Option RunFault). option_or o rest) (sym e) ∙ is) in
    record { k = suc t.k; at = omega (arith, t.at); b = t.b; there = t.there; refuses = t.refuses }
by_end arrivals b bs r place i f rest fed later (Some y) e is =
    let at : of_end place (suc (length bs)) r.ended ≡ Some (run.Feed i f) = e ∙ (ap (λ (o : Option RunFault). option_or o rest) (sym e) ∙ is) in
    elim fed.1 [
      | inl t ↦ (let bad = is_bad place (length bs) r.ended i f at in elim t.2.ended [
        | inl done ↦ (let wrong : Done ≡ BadInput f = sym done ∙ bad in absurd (cc))
        | inr early ↦ absurd (subst EndsEarly bad early)
      ])
      | inr u ↦ (let n = not_memory place (suc (length bs)) u.1.0 i f (ap (λ (z : Report). of_end place (suc (length bs)) z.ended) (sym u.1.1) ∙ at) in
          record { k = 0; at = omega (arith, n.0); b = b; there = refl; refuses = subst (λ g. Refuses b g) n.1 (u.1.2 n.2) })
    ]

pub blamed : (arrivals : List EventValue) (bs : List (List ℕ)) (rs : List Report) (place i : ℕ) (f : ReadFault) → AreFed arrivals bs rs
    → first_fault place (length bs) rs ≡ Some (run.Feed i f) → Blamed bs place i f
blamed arrivals [] rs place i f fed is = absurd (none_blamed rs place i f is)
blamed arrivals (b ∷ bs) [] place i f fed is = absurd fed
blamed arrivals (b ∷ bs) (r ∷ rs) place i f fed is =
    by_end arrivals b bs r place i f (first_fault (place + 1) (length bs) rs) fed.0 (blamed arrivals bs rs (place + 1) i f fed.1) (of_end place (suc (length bs)) r.ended) refl
    (sym (at_first place (length bs) r rs) ∙ is)

-- where no report has a fault, each peer brought all that was lacking
pub all_pulled : (held more : List EventValue) (bs : List (List ℕ)) (ps : List (List EventValue)) (rs : List Report) (place : ℕ) → AreReports held more bs ps rs
    → first_fault place (length bs) rs ≡ None → ArePulled held more ps
all_pulled held more [] [] [] place told none = tt
all_pulled held more [] [] (r ∷ rs) place told none = absurd told
all_pulled held more [] (p ∷ ps) [] place told none = absurd told
all_pulled held more [] (p ∷ ps) (r ∷ rs) place told none =
    let n = no_first (of_end place 0 r.ended) (first_fault (place + 1) 0 rs) none in
    (told.0.done (done_by place 0 r.ended n.0), all_pulled held more [] ps rs (place + 1) told.1 n.1)
all_pulled held more (b ∷ bs) ps [] place told none = absurd told
all_pulled held more (b ∷ bs) ps (r ∷ rs) place told none =
    let n = no_first (of_end place (suc (length bs)) r.ended) (first_fault (place + 1) (length bs) rs) (sym (at_first place (length bs) r rs) ∙ none) in
    all_pulled held more bs ps rs (place + 1) told.1 n.1
