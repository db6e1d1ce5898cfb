-- A service that is opened was taken over or made.
use Rattle.std.proofs.Common.{◌≡◌, ◌≢◌, ◌⊎◌, inl, inr, ◌+◌, Bool, true, false, ℕ, List, [], IsTrue, sym, subst, ◌∙◌, arith}
use Rattle.sqlite_trees.specs.View.{doubt}
use Rattle.sqlite.specs.State.{State, HasCleanDisk, Survives}
use Rattle.database_layout.specs.Layout.{has_name, lacks_name}
use Rattle.outbox.specs.Order.{Accepted}
use Rattle.outbox.specs.Service.{IsService}
use Rattle.outbox.specs.Layout.{IsOthers}
use Rattle.outbox.specs.Shown.{HasNoOther, IsNoService, Shown, StandsWithRows, StandsForService}
use Rattle.outbox.specs.Call.{IsAsItWas, IsFounded, IsSettled, Leaves, MayFound}
use Rattle.outbox.specs.Opening.{IsOpeningRefused, LeavesOrMakes, OpensService}
use Rattle.outbox.specs.declared.fault.OutboxFault.{OutboxFault}
use Rattle.outbox.specs.declared.fault.OutboxFault.TheVariants.{Foreign, OutOfMemory, Store}
use Rattle.outbox.proofs.FoundLemmas.{not_both}

module _ (source : List ℕ) (base : ℕ) (old new : State) where
  left_crash : Leaves old new → LeavesOrMakes source base old new
  left_crash left clean db may = inl (left.crash clean db may)

  founded_crash : has_name old.now.schema ≡ false → Survives old new (MayFound source base old.now) → LeavesOrMakes source base old new
  founded_crash none survives clean db may = go (survives.crash clean db may)
    where
      go : old.may_leave db ⊎ MayFound source base old.now db → old.may_leave db ⊎ ((has_name old.now.schema ≡ false) × MayFound source base old.now db)
      go (inl before) = inl before
      go (inr founds) = inr (none, founds)

  pub taken : {S : Type 0} (is : Shown S) → has_name old.now.schema ≡ true → Leaves old new → StandsForService new is.source is.base is.last → (HasCleanDisk new → HasNoOther old.now is.source is.base) → (HasCleanDisk new → IsTrue new.is_open) → (HasCleanDisk new → IsSettled new) → OpensService source base old is new
  taken is there left stands exact stays settled = record {
    clean = left.clean;
    left = λ _. left;
    exact = λ clean _. exact clean;
    first = λ none. absurd (not_both (has_name old.now.schema) there none);
    given = λ none. absurd (not_both (has_name old.now.schema) there none);
    made = λ _ none. absurd (not_both (has_name old.now.schema) there none);
    stands = λ clean. stands.stands clean (stays clean);
    stays_open = stays;
    settled = settled;
    crash = left_crash left;
  }

  new_stands : {S : Type 0} (is : Shown S) → IsService new.now source base [] → is.source ≡ source → is.base ≡ base → is.last ≡ base → StandsWithRows new.now is.source is.base is.last
  new_stands is service source_is base_is last_is = record {
    commands = [];
    table = subst (λ s. IsService new.now s is.base []) (sym source_is) (subst (λ n. IsService new.now source n []) (sym base_is) service);
    count = (let e : is.last ≡ is.base + 0 = omega (arith, base_is, last_is) in e);
  }

  pub founded : {S : Type 0} (is : Shown S) → has_name old.now.schema ≡ false → ((s : List ℕ) (b : ℕ) (commands : List Accepted) → IsService old.now s b commands → ⊥) → (is.source ≡ source) × (is.base ≡ base) × (is.last ≡ base) → (HasCleanDisk new → IsFounded source base old.now new.now) → (HasCleanDisk new → IsTrue new.is_open)
      → (HasCleanDisk new → IsSettled new) → Survives old new (MayFound source base old.now) → OpensService source base old is new
  founded is none first given made stays settled survives = record {
    clean = survives.clean;
    left = λ there. absurd (not_both (has_name old.now.schema) there none);
    exact = λ _ there. absurd (not_both (has_name old.now.schema) there none);
    first = λ _. first;
    given = λ _. given;
    made = λ clean _. made clean;
    stands = λ clean. new_stands is (made clean).service given.0 given.1 given.2;
    stays_open = stays;
    settled = settled;
    crash = founded_crash none survives;
  }

  pub not_taken : (f : OutboxFault) → has_name old.now.schema ≡ true → Leaves old new → (HasCleanDisk new → f ≡ Foreign → IsNoService old.now) → (lacks_name old.now.schema ≡ false → IsOthers old.now.schema → f ≢ Foreign) → (f ≡ OutOfMemory) ⊎ ((f ≡ Store) ⊎ (f ≡ Foreign)) → IsOpeningRefused source base old new f
  not_taken f there left foreign strange fault = record {
    clean = left.clean;
    same = λ clean still. left.same clean still;
    crash = left_crash left;
    there = λ _. there;
    foreign = λ is clean. foreign clean is;
    strange = strange;
    fault = fault;
  }

  pub not_founded : (f : OutboxFault) → has_name old.now.schema ≡ false → IsAsItWas old new → Survives old new (MayFound source base old.now) → (f ≡ Foreign → has_name old.now.schema ≡ true) → (f ≡ OutOfMemory) ⊎ ((f ≡ Store) ⊎ (f ≡ Foreign)) → IsOpeningRefused source base old new f
  not_founded f none same survives there fault = record {
    clean = survives.clean;
    same = same;
    crash = founded_crash none survives;
    there = there;
    foreign = λ is. absurd (not_both (has_name old.now.schema) (there is) none);
    strange = λ _ _ is. not_both (has_name old.now.schema) (there is) none;
    fault = fault;
  }
