-- From what a crash may leave of a service to the one that is found.
use Rattle.std.proofs.Common.{◌≡◌, ◌≢◌, ◌⊎◌, ◌∙◌, ℕ, List, [], ◌∷◌, ◌++◌, true, IsTrue, sym, ap, subst, inl, inr, arith}
use Rattle.sqlite_disk.specs.declared.Disk.{Ghosts}
use Rattle.sqlite_store.specs.declared.store.FileStore.{FileStore}
use Rattle.sqlite.specs.Effect.{Database, IsDatabase}
use Rattle.sqlite.specs.Files.{file_state}
use Rattle.sqlite.specs.Held.{Held}
use Rattle.sqlite.specs.State.{HasCleanDisk, State}
use Rattle.database_layout.specs.Law.{TreesTellTables}
use Rattle.database_layout.specs.Layout.{lacks_name}
use Rattle.outbox.specs.Call.{IsSettled, Leaves, MayAccept}
use Rattle.outbox.specs.Law.{StopsLeaveAService}
use Rattle.outbox.specs.Order.{Accepted}
use Rattle.outbox.specs.Service.{IsService}
use Rattle.outbox.specs.Shown.{HasNoOther, IsAllowed, IsNoService, Shown}
use Rattle.outbox.specs.declared.fault.OutboxFault.{OutboxFault}
use Rattle.outbox.specs.declared.fault.OutboxFault.TheVariants.{Foreign}
use Rattle.reopening.specs.Crash.{IsReopened}
use Rattle.reopening.specs.Services.{AfterCommand, AfterCreate, CommandsUntil, FindsService, FoundsUntil, HadNoService, HadService}

-- the database that is found is the service of before, or has accepted the command too
service_kept : StopsLeaveAService → (old stopped again : State) → IsReopened stopped again
    → (source : List ℕ) (base : ℕ) (commands : List Accepted) (a : Accepted) → HadService old source base commands → CommandsUntil old source base a stopped
    → IsService again.now source base commands ⊎ IsService again.now source base (commands ++ a ∷ [])
service_kept law old stopped again re source base commands a had until =
    let shown = ap (λ (d : Database). d.trees) re.opens.clean in
    law source base commands a old.now again.now had.sound re.sound had.service
    (elim (until re.clean had.is_open again.committed.trees re.found) [
      | inl before ↦ inl (shown ∙ had.settled had.is_open again.committed.trees before)
      | inr after ↦ inr (subst (MayAccept source base a old.now) (sym shown) after)
    ])

-- or it is that of before, or has the service that was being made
service_made : TreesTellTables → (old stopped again : State) → IsReopened stopped again → (source : List ℕ) (base : ℕ) → HadNoService old → FoundsUntil old source base stopped
    → (again.now ≡ old.now) ⊎ IsService again.now source base []
service_made tell old stopped again re source base had until =
    let shown = ap (λ (d : Database). d.trees) re.opens.clean in
    elim (until re.clean again.committed.trees re.found) [
      | inl before ↦ inl (tell old.now again.now had.sound re.sound (shown ∙ had.settled had.is_open again.committed.trees before))
      | inr after ↦ inr (subst (λ (d : Database). IsService d source base []) (sym (tell after.db again.now after.sound re.sound (shown ∙ after.are))) after.founded.service)
    ]

module _ {D : Type 0} {g : Ghosts D} (law : StopsLeaveAService) (c again : Held (FileStore D g)) (new : State)
    (opened : HasCleanDisk (file_state again) → IsReopened (file_state c) (file_state again))
    (left : Leaves (file_state again) new) (clean : HasCleanDisk new) where
  pub is_reopened : IsReopened (file_state c) (file_state again)
  is_reopened = opened (omega (arith, left.clean, clean))

  kept_in : (old : Held (FileStore D g)) (source : List ℕ) (base : ℕ) (commands : List Accepted) (a : Accepted)
      → HadService (file_state old) source base commands → CommandsUntil (file_state old) source base a (file_state c)
      → IsService (file_state again).now source base commands ⊎ IsService (file_state again).now source base (commands ++ a ∷ [])
  kept_in old = service_kept law (file_state old) (file_state c) (file_state again) is_reopened

  pub accepted_found : IsTrue new.is_open → (old : Held (FileStore D g)) (source : List ℕ) (base : ℕ) (commands : List Accepted) (a : Accepted)
      → HadService (file_state old) source base commands → CommandsUntil (file_state old) source base a (file_state c)
      → IsService new.now source base commands ⊎ IsService new.now source base (commands ++ a ∷ [])
  accepted_found on old source base commands a had until =
      let same = sym (left.same clean on) in
      elim (kept_in old source base commands a had until) [
        | inl before ↦ inl (subst (λ (d : Database). IsService d source base commands) same before)
        | inr after ↦ inr (subst (λ (d : Database). IsService d source base (commands ++ a ∷ [])) same after)
      ]

  pub named_found : (s : List ℕ) (b : ℕ) → HasNoOther (file_state again).now s b
      → (old : Held (FileStore D g)) (source : List ℕ) (base : ℕ) (commands : List Accepted) (a : Accepted)
      → HadService (file_state old) source base commands → CommandsUntil (file_state old) source base a (file_state c)
      → (s ≡ source) × (b ≡ base)
  named_found s b only old source base commands a had until =
      elim (kept_in old source base commands a had until) [
        | inl before ↦ only source base commands before
        | inr after ↦ only source base (commands ++ a ∷ []) after
      ]

  pub made_in : TreesTellTables → (lacks_name (file_state again).now.schema ≡ true → ⊥) → AfterCreate c (λ source base. IsService (file_state again).now source base [])
  made_in tell there old source base had until =
      elim (service_made tell (file_state old) (file_state c) (file_state again) is_reopened source base had until) [
        | inl before ↦ absurd (there (ap (λ (d : Database). lacks_name d.schema) before ∙ had.service))
        | inr made ↦ made
      ]

  pub service_known : (fault : OutboxFault) → (HasCleanDisk new → fault ≡ Foreign → IsNoService (file_state again).now)
      → AfterCommand c (λ source base commands a. IsAllowed source base → fault ≢ Foreign)
  service_known fault none old source base commands a had until allowed foreign =
      elim (kept_in old source base commands a had until) [
        | inl before ↦ none clean foreign source base commands allowed before
        | inr after ↦ none clean foreign source base (commands ++ a ∷ []) allowed after
      ]

pub service_found : {D : Type 0} {g : Ghosts D} → StopsLeaveAService → TreesTellTables → (c again : Held (FileStore D g)) (s : Shown (FileStore D g))
    → (HasCleanDisk (file_state again) → IsReopened (file_state c) (file_state again))
    → Leaves (file_state again) (file_state s.conn) → (HasCleanDisk (file_state s.conn) → IsTrue (file_state s.conn).is_open)
    → (HasCleanDisk (file_state s.conn) → HasNoOther (file_state again).now s.source s.base)
    → (HasCleanDisk (file_state s.conn) → IsSettled (file_state s.conn))
    → (lacks_name (file_state again).now.schema ≡ true → ⊥)
    → HasCleanDisk (file_state s.conn) → FindsService c s
service_found law tell c again s opened left on only settled there clean =
    let made = made_in law c again (file_state s.conn) opened left clean tell there in
    let same = sym (left.same clean (on clean)) in
    let re = is_reopened law c again (file_state s.conn) opened left clean in
    record {
      clean = re.clean;
      accepted = accepted_found law c again (file_state s.conn) opened left clean (on clean);
      named = named_found law c again (file_state s.conn) opened left clean s.source s.base (only clean);
      founded = λ old source base had until. subst (λ (d : Database). IsService d source base []) same (made old source base had until);
      given = λ old source base had until. only clean source base [] (made old source base had until);
      is_open = on clean;
      sound = subst IsDatabase same re.sound;
      settled = settled clean;
    }
