-- An opening of a table, by what was there.
use Rattle.std.proofs.Common.{◌≡◌, inr, ℕ, List, [], Bool, true, false, ◌&&◌, ◌||◌, subst, sym, codes, length, Ok, Err, Result}
use Rattle.std.specs.Result.{IfErr, IfOk}
use Rattle.sqlite_schema.specs.declared.schema.Schema.{Schema}
use Rattle.sqlite.specs.State.{State}
use Rattle.attributes.specs.Event.{EventValue}
use Rattle.database_layout.specs.Layout.{has_inbox, has_table}
use Rattle.inbox_table.specs.Calls.{Adopts, Creates, IsAsItWas, IsTold, Rejects, has_both}
use Rattle.inbox_table.specs.Opening.{Opens, RejectsOpening}
use Rattle.inbox_table.specs.Rows.{IsInbox, IsOldInbox}
use Rattle.inbox_table.specs.declared.fault.TableFault.{TableFault}
use Rattle.inbox_table.specs.declared.fault.TableFault.TheVariants.{Foreign}
use Rattle.inbox_table.proofs.UpgradeLemmas.{any_named, not_told}

-- none was there
module _ (old new : State) (none : has_inbox old.now.schema ≡ false) where
  not_there : {P : Type 0} → has_inbox old.now.schema ≡ true → P
  not_there is = absurd (not_told (has_inbox old.now.schema) is none)

  pub made_opens : (told : ℕ → ℕ → Type 0) (events : List EventValue) → events ≡ [] → Creates old new → Opens told old new events
  made_opens told events are it = record {
    adopts = λ is. not_there is;
    told = λ box. not_there (any_named old.now events (inr box));
    creates = λ _. it;
    none = λ _. are;
    is = subst (λ l. IsInbox new.now l) (sym are) it.made.table;
    stays_open = it.stays_open;
    settled = it.settled;
  }

  pub made_rejects : (fault : TableFault) → IsAsItWas old new → (fault ≡ Foreign → has_inbox old.now.schema ≡ true) → RejectsOpening old new fault
  made_rejects fault same foreign = record { rejects = λ is. not_there is; foreign = foreign; same = same }

-- one was there
module _ (old new : State) (has : has_inbox old.now.schema ≡ true) where
  there : {P : Type 0} → has_inbox old.now.schema ≡ false → P
  there is = absurd (not_told (has_inbox old.now.schema) has is)

  pub adopted_opens : (told : ℕ → ℕ → Type 0) (events : List EventValue) → Adopts old new events → ((m : List EventValue) → IsOldInbox old.now m → IsTold told (length m)) → Opens told old new events
  adopted_opens told events it were = record {
    adopts = λ _. it;
    told = were events;
    creates = λ is. there is;
    none = λ is. there is;
    is = it.is;
    stays_open = it.stays_open;
    settled = it.settled;
  }

  pub adopted_rejects : (fault : TableFault) → Rejects old new fault → RejectsOpening old new fault
  adopted_rejects fault it = record { rejects = λ _. it; foreign = λ _. has; same = it.same }

no_two : (a b : Bool) → a || b ≡ false → a && b ≡ true → ⊥
no_two true b none both = absurd (cc)
no_two false b none both = absurd (cc)

-- where none is there, there aren't both
pub not_both : (s : Schema) → has_inbox s ≡ false → has_both s ≡ true → ⊥
not_both s none both = no_two (has_table s (codes "inbox")) (has_table s (codes "inbox2")) none both

pub both_ok : {T E : Type 0} (r : Result T E) (P Q : T → Type 0) → IfOk r P → IfOk r Q → IfOk r (λ x. P x × Q x)
both_ok (Ok x) P Q p q = (p, q)
both_ok (Err y) P Q p q = tt

pub both_err : {T E : Type 0} (r : Result T E) (P Q : E → Type 0) → IfErr r P → IfErr r Q → IfErr r (λ x. P x × Q x)
both_err (Ok x) P Q p q = tt
both_err (Err y) P Q p q = (p, q)
