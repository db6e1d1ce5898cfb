-- What the gate let a worker do, one call more at a time.
use Rattle.std.proofs.Common.{◌≡◌, ◌+◌, ◌≤◌, ℕ, List, ◌++◌, [], ◌∷◌, length, refl, sym, ap, ◌∙◌, subst, arith, inl, inr, length-append}
use Rattle.std.proofs.lemmas.Bool.{cases_lt}
use Rattle.std.specs.Bool.{IsTrue}
use Rattle.std.specs.Prelude.{Option, Some, None, true, false}
use Rattle.attributes.specs.Event.{EventValue}
use Rattle.site.specs.Gate.{LetsThrough}
use Rattle.event_json.specs.declared.fault.ReadFault.{ReadFault}
use Rattle.event_json.specs.declared.fault.ReadFault.TheVariants as read
use Rattle.feeds.specs.Gate.{IsGated}
use Rattle.feeds.specs.Report.{end_if_unread, unread}
use Rattle.feeds.specs.declared.report.Report.{Report}
use Rattle.feeds.specs.declared.report.WorkerEnd.{WorkerEnd}
use Rattle.feeds.specs.declared.report.WorkerEnd.TheVariants.{GateShut}
use Rattle.feeds.specs.declared.report.Tally.{Tally}
use Rattle.feeds.specs.steps.Gate.{GoesThrough}
use Rattle.feeds.specs.steps.Tally.{Passes}

module _ (lets heard : ℕ → ℕ → Type 0) (worker : ℕ) where
  through_none : (first : ℕ) → LetsThrough lets heard worker first 0
  through_none first k low high = let no : ⊥ = omega (arith, low, high) in absurd no

  -- the call after the first ones
  through_one : (first : ℕ) → lets worker (first + 1) → heard worker (first + 1) → LetsThrough lets heard worker first 1
  through_one first let_in told k low high = let is : first + 1 ≡ k = omega (arith, low, high) in (subst (λ z. lets worker z) is let_in, subst (λ z. heard worker z) is told)

  through_on : (first count more : ℕ) → LetsThrough lets heard worker first count → LetsThrough lets heard worker (first + count) more → LetsThrough lets heard worker first (count + more)
  through_on first count more h j k low high = elim (cases_lt (first + count) k) [
    | inl above ↦ j k above (omega (arith, high))
    | inr within ↦ h k low within
  ]

module _ {lets shuts heard : ℕ → ℕ → Type 0} {worker : ℕ} where
  -- a call that was made, whatever came of it
  pub gated_call : (first last asked told : ℕ) (o : Option WorkerEnd) → lets worker asked → heard worker told → asked ≡ first + 1 → told ≡ first + 1 → last ≡ first + 1 → (o ≡ Some GateShut → ⊥)
      → GoesThrough lets shuts heard worker first 1 last o
  gated_call first last asked told o let_in heard_of a b is on = record {
    through = through_one lets heard worker first (subst (λ z. lets worker z) a let_in) (subst (λ z. heard worker z) b heard_of);
    counts = λ _. is;
    shut = λ s. absurd (on s);
  }

  -- a call before which the gate was shut
  pub gated_shut : (first last : ℕ) (o : Option WorkerEnd) → shuts worker (first + 1) → o ≡ Some GateShut → GoesThrough lets shuts heard worker first 0 last o
  gated_shut first last o shut is = record {
    through = through_none lets heard worker first;
    counts = λ none. absurd (cc);
    shut = λ _. subst (λ z. shuts worker (z + 1)) (omega arith) shut;
  }

  -- no call
  pub gated_none : (first last : ℕ) (o : Option WorkerEnd) → last ≡ first → (o ≡ Some GateShut → ⊥) → GoesThrough lets shuts heard worker first 0 last o
  gated_none first last o is on = record { through = through_none lets heard worker first; counts = λ _. omega (arith, is); shut = λ s. absurd (on s) }

  -- calls behind others, after which nothing had ended
  pub gated_on : (first count last more end : ℕ) (o p : Option WorkerEnd) → GoesThrough lets shuts heard worker first count last o → o ≡ None → GoesThrough lets shuts heard worker last more end p
      → GoesThrough lets shuts heard worker first (count + more) end p
  gated_on first count last more end o p g none h = let is : last ≡ first + count = g.counts none in record {
    through = through_on lets heard worker first count more g.through (subst (λ z. LetsThrough lets heard worker z more) is h.through);
    counts = λ k. omega (arith, h.counts k, is);
    shut = λ s. subst (λ z. shuts worker (z + 1)) (omega (arith, is)) (h.shut s);
  }

  -- all calls of a worker that ended so
  pub gated_all : (count last : ℕ) (o : Option WorkerEnd) (ended : WorkerEnd) → GoesThrough lets shuts heard worker 0 count last o → o ≡ Some ended → IsGated lets shuts heard worker count ended
  gated_all count last o ended g is = record {
    through = g.through;
    shut = λ s. subst (λ z. shuts worker (z + 1)) (omega arith) (g.shut (is ∙ ap Some s));
  }

  -- those of a worker that went on until it ended so by itself
  pub gated_end : (count last : ℕ) (o : Option WorkerEnd) (ended : WorkerEnd) → GoesThrough lets shuts heard worker 0 count last o → (ended ≡ GateShut → ⊥) → IsGated lets shuts heard worker count ended
  gated_end count last o ended g on = record { through = g.through; shut = λ s. absurd (on s) }

  pub gated_as : (count other : ℕ) (ended : WorkerEnd) → IsGated lets shuts heard worker count ended → other ≡ count → IsGated lets shuts heard worker other ended
  gated_as count other ended g is = subst (λ z. IsGated lets shuts heard worker z ended) (sym is) g

  pub gated_more : {A : Type 0} → (first last end : ℕ) (m n : List A) (o p : Option WorkerEnd) → o ≡ None → GoesThrough lets shuts heard worker first (length m) last o → GoesThrough lets shuts heard worker last (length n) end p
      → GoesThrough lets shuts heard worker first (length (m ++ n)) end p
  gated_more first last end m n o p none g h = subst (λ z. GoesThrough lets shuts heard worker first z end p) (sym (length-append m n)) (gated_on first (length m) last (length n) end o p g none h)

  -- so it is of calls of two desks
  pub gated_both : {A : Type 0} → (first last end : ℕ) (m n k l : List A) (o p : Option WorkerEnd) → o ≡ None → GoesThrough lets shuts heard worker first (length m + length n) last o
      → GoesThrough lets shuts heard worker last (length k + length l) end p → GoesThrough lets shuts heard worker first (length (m ++ k) + length (n ++ l)) end p
  gated_both first last end m n k l o p none g h = subst (λ z. GoesThrough lets shuts heard worker first z end p) (omega (arith, length-append m k, length-append n l))
      (gated_on first (length m + length n) last (length k + length l) end o p g none h)

  pub gated_count : (first count other last : ℕ) (o : Option WorkerEnd) → GoesThrough lets shuts heard worker first count last o → other ≡ count → GoesThrough lets shuts heard worker first other last o
  gated_count first count other last o g is = subst (λ z. GoesThrough lets shuts heard worker first z last o) (sym is) g

  pub gated_from : (first other count last : ℕ) (o : Option WorkerEnd) → GoesThrough lets shuts heard worker first count last o → other ≡ first → GoesThrough lets shuts heard worker other count last o
  gated_from first other count last o g is = subst (λ z. GoesThrough lets shuts heard worker z count last o) (sym is) g

  pub gated_went : (first count last : ℕ) (o : Option WorkerEnd) → GoesThrough lets shuts heard worker first count last o → o ≡ None → GoesThrough lets shuts heard worker first count last None
  gated_went first count last o g none = subst (λ z. GoesThrough lets shuts heard worker first count last z) none g

  pub gated_told : (first count last : ℕ) (o : Option WorkerEnd) {p : Option WorkerEnd} → GoesThrough lets shuts heard worker first count last o → o ≡ p → GoesThrough lets shuts heard worker first count last p
  gated_told first count last o g is = subst (λ z. GoesThrough lets shuts heard worker first count last z) is g

  -- so it is where it ended by itself
  pub gated_by : {first count last other : ℕ} {o p : Option WorkerEnd} → GoesThrough lets shuts heard worker first count last o → (p ≡ None → ⊥) → (p ≡ Some GateShut → ⊥) → GoesThrough lets shuts heard worker first count other p
  gated_by g on wide = record { through = g.through; counts = λ none. absurd (on none); shut = λ s. absurd (wide s) }

-- an input that wasn't read shuts no gate
unread_open : (fault : ReadFault) → end_if_unread fault ≡ GateShut → ⊥
unread_open read.OutOfMemory s = absurd (cc)
unread_open read.NotJson s = absurd (cc)
unread_open read.NotEvent s = absurd (cc)
unread_open (read.BadEvent index fault) s = absurd (cc)
unread_open read.InputTooLarge s = absurd (cc)

pub gated_unread : (lets shuts heard : ℕ → ℕ → Type 0) (worker : ℕ) (fault : ReadFault) (r : Report) → r ≡ unread fault → IsGated lets shuts heard worker 0 r.ended
gated_unread lets shuts heard worker fault r is = record {
  through = through_none lets heard worker 0;
  shut = λ s. absurd (unread_open fault (sym (ap (λ z. z.ended) is) ∙ s));
}

pub same_calls : (e : EventValue) (b c : List EventValue) (t u : Tally) → Passes e b c t u → t.calls ≡ u.calls
same_calls e b c t u (inl (none, same, is)) = sym (ap (λ z. z.calls) is)
same_calls e b c t u (inr (some, more, is)) = sym (ap (λ z. z.calls) is)

pub some_left : {A : Type 0} → (l : List A) → (length l ≡ 0 → IsTrue false) → 1 ≤ length l
some_left [] none = let no : false ≡ true = cc (none refl) in absurd (cc)
some_left (x ∷ xs) none = omega arith
