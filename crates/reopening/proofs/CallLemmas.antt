-- From the clauses of calls to what the functions over crashed files ask for.
use Rattle.std.proofs.Common.{◌≡◌, ◌∙◌, ℕ, suc, ◌+◌, Bool, true, false, List, [], ◌∷◌, length, IsTrue, refl, sym, subst, inl, arith}
use Rattle.sqlite.specs.Effect.{Database, IsDatabase}
use Rattle.sqlite.specs.Held.{Held}
use Rattle.sqlite.specs.State.{HasCleanDisk, IsLive, State, Survives}
use Rattle.attributes.specs.Event.{EventValue}
use Rattle.database_layout.specs.Layout.{has_name}
use Rattle.inbox_table.specs.Calls.{MayTake}
use Rattle.inbox_table.specs.Opening.{MayOpen, Opens}
use Rattle.inbox_table.specs.Rows.{IsInbox}
use Rattle.inbox_table.proofs.UpgradeLemmas.{any_named}
use Rattle.outbox.specs.Opening as outbox
use Rattle.outbox.specs.Order.{Accepted}
use Rattle.outbox.specs.Service.{IsService}
use Rattle.outbox.specs.Shown.{Shown}
use Rattle.reopening.specs.Lists.{GaveEvents}
use Rattle.reopening.specs.Services.{CommandsUntil, GaveCommand}

-- a table was opened with some events
abbrev pub OpensTable : (ℕ → ℕ → Type 0) → State → State → ℕ → Type 0
OpensTable tells old new rows = HasCleanDisk new → (events : List EventValue) × (rows ≡ length events) × Opens tells old new events

module _ {S : Type 0} (state : Held S → State) (first taken one old last : Held S) (L : List EventValue) where
  pub gave_events : (tells again : ℕ → ℕ → Type 0) (rows rows' : ℕ) → one ≡ taken → OpensTable tells (state first) (state taken) rows → IsLive (state one)
      → OpensTable again (state one) (state old) rows' → Survives (state one) (state old) (MayOpen (state one).now)
      → Survives (state old) (state last) (λ trees. IsTrue (state old).is_open → MayTake L (state old).now trees)
      → HasCleanDisk (state last) → GaveEvents state first L last
  gave_events tells again rows rows' back opened live reopened crash kept clean =
      let clean2 : HasCleanDisk (state old) = omega (arith, kept.clean, clean) in
      let clean1 : HasCleanDisk (state one) = omega (arith, crash.clean, clean2) in
      let it = subst (λ (h : Held S). OpensTable tells (state first) (state h) rows) (sym back) opened clean1 in
      let then = reopened clean2 in
      let box : IsInbox (state one).now it.0 = it.2.is in
      let taken = then.2.adopts (any_named (state one).now it.0 (inl box)) in
      let events : then.0 ≡ it.0 = taken.only it.0 (inl box) in
      let same : (state old).now ≡ (state one).now = taken.same (subst (λ (z : List EventValue). IsInbox (state one).now z) (sym events) box) in
      record {
        old = old;
        held = it.0;
        were = record { there = λ has. (it.2.adopts has).found; none = λ none. it.2.none none };
        had = record {
          is_open = then.2.stays_open;
          sound = subst IsDatabase (sym same) (live it.2.stays_open).0;
          list = subst (λ (z : List EventValue). IsInbox (state old).now z) events then.2.is;
          settled = then.2.settled;
        };
        until = kept;
      }

not_false : (b : Bool) → (b ≡ false → ⊥) → b ≡ true
not_false true h = refl
not_false false h = absurd (h refl)

none_of : (base : ℕ) (commands : List Accepted) → base ≡ base + length commands → commands ≡ []
none_of base [] is = refl
none_of base (c ∷ cs) is = absurd (let bad : base ≡ base + suc (length cs) = is in omega (arith, bad))

module _ {S : Type 0} (state : Held S → State) (first last : Held S) (one two : Shown S) (given : List ℕ) (start : ℕ) (a : Accepted) where
  pub gave_command : (mid : Held S) → mid ≡ one.conn → outbox.OpensService given start (state first) one (state one.conn) → IsLive (state mid)
      → outbox.OpensService given start (state mid) two (state two.conn) → (HasCleanDisk (state last) → HasCleanDisk (state two.conn))
      → CommandsUntil (state two.conn) two.source two.base a (state last) → HasCleanDisk (state last) → GaveCommand state first given start a last
  gave_command mid back opened alive again before until clean =
      let live : IsLive (state one.conn) = subst (λ (h : Held S). IsLive (state h)) back alive in
      let reopened : outbox.OpensService given start (state one.conn) two (state two.conn) = subst (λ (h : Held S). outbox.OpensService given start (state h) two (state two.conn)) back again in
      let clean2 : HasCleanDisk (state two.conn) = before clean in
      let clean1 : HasCleanDisk (state one.conn) = (let c = reopened.clean in omega (arith, c, clean2)) in
      let stands = opened.stands clean1 in
      let named : has_name (state one.conn).now.schema ≡ true = not_false _ (λ none. reopened.first none one.source one.base stands.commands stands.table) in
      let own = reopened.exact clean2 named one.source one.base stands.commands stands.table in
      let left = reopened.left named in
      let same : (state two.conn).now ≡ (state one.conn).now = left.same clean2 (reopened.stays_open clean2) in
      let mine : IsService (state one.conn).now two.source two.base stands.commands =
      subst (λ (z : List ℕ). IsService (state one.conn).now z two.base stands.commands) (sym own.0)
      (subst (λ (z : ℕ). IsService (state one.conn).now one.source z stands.commands) (sym own.1) stands.table) in
      record {
        old = two.conn;
        source = two.source;
        base = two.base;
        commands = stands.commands;
        was = record {
          there = λ has. let kept = (opened.left has).same clean1 (opened.stays_open clean1) in
              subst (λ (d : Database). IsService d two.source two.base stands.commands) kept mine;
          none = λ none. let is = opened.given none in
              let last : one.base ≡ one.base + length stands.commands = is.1 ∙ sym is.2 ∙ stands.count in
              (own.0 ∙ is.0, own.1 ∙ is.1, none_of one.base stands.commands last);
        };
        had = record {
          is_open = reopened.stays_open clean2;
          sound = subst IsDatabase (sym same) (live (opened.stays_open clean1)).0;
          service = subst (λ (d : Database). IsService d two.source two.base stands.commands) (sym same) mine;
          settled = reopened.settled clean2;
        };
        until = until;
      }
