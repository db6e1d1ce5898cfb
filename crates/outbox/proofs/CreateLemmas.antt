-- What the statements of `create` make of a database that has room for the tables.
use Rattle.std.proofs.Common.{◌≡◌, inl, inr, ℕ, List, [], ◌∷◌, Option, Some, None, Ok, IsPermutation, refl, sym, subst, ◌∙◌, arith}
use Rattle.std.proofs.lemmas.List.Sorted.{IsPermutation-refl}
use Rattle.sqlite.specs.Effect.{Database, IsDatabase}
use Rattle.sqlite.specs.State.{State, HasCleanDisk, Survives, ExecutesInside}
use Rattle.sqlite.proofs.Callers.{one_permutation}
use Rattle.sqlite.proofs.StateLemmas.{survives_then}
use Rattle.sqlite_catalog.specs.Change.{KeepsRows}
use Rattle.database_layout.specs.Beside.{HasAnyInbox}
use Rattle.database_layout.specs.Layout.{GainsService, HasService, inbox_tree, schema_in}
use Rattle.database_layout.specs.Making.{Makes, service_trees}
use Rattle.database_layout.specs.declared.layout.Layout.{Layout}
use Rattle.database_layout.specs.declared.layout.Layout.TheVariants.{Empty, Inbox, Inbox2, Upgraded}
use Rattle.outbox.specs.Layout.{ServiceLayout, first_tree}
use Rattle.outbox.specs.Service.{AreOrders, service_row}
use Rattle.outbox.specs.Call.{IsFounded, MayFound}
use Rattle.outbox.specs.steps.Statement.{found_text}
use Rattle.outbox.proofs.InsertLemmas.{found_params, founds}

no_orders : AreOrders [] []
no_orders = record { sound = λ r h. absurd h; complete = λ order status is. absurd (let no : ◌≡◌ {A = Option _} None (Some status) = is in cc) }

-- the layout has a service once it is made
gained : (before after : Layout) → GainsService before after → HasService after
gained Empty after h = rw h tt
gained Inbox after h = rw h tt
gained Inbox2 after h = rw h tt
gained Upgraded after h = rw h tt
gained _ after h = absurd h

-- and the inbox stays where it was
stayed : (before after : Layout) (old new : Database) → GainsService before after → KeepsRows (schema_in before).tables old.trees new.trees → HasAnyInbox before
    → HasAnyInbox after × (inbox_tree after ≡ inbox_tree before) × (new.trees (inbox_tree before) ≡ old.trees (inbox_tree before))
stayed Empty after old new h kept (inl h2) = absurd h2
stayed Empty after old new h kept (inr h2) = absurd h2
stayed Inbox after old new h kept has = rw h (inl tt, refl, kept.0)
stayed Inbox2 after old new h kept has = rw h (inr tt, refl, kept.0)
stayed Upgraded after old new h kept has = rw h (inr tt, refl, kept.0)
stayed _ after old new h kept has = absurd h

-- the database of a new service
pub new_service : (before after : Layout) (a b c : State) (source : List ℕ) (base count : ℕ) → GainsService before after → a.now.schema ≡ schema_in before → Makes (schema_in before) (schema_in after) (service_trees after) a b
    → ExecutesInside 0 found_text (found_params source base) b c (Ok count) → IsFounded source base a.now c.now × IsDatabase c.now
new_service before after a b c source base count gains was made x =
    let l : ServiceLayout = (after, gained before after gains) in
    let it = founds b c l source base count made.changed.schema x.0 in (
      record {
        service = record {
          layout = l;
          schema = it.0;
          service = one_permutation (service_row source base) (c.now.trees (first_tree l)) (subst (λ rows. IsPermutation (service_row source base ∷ rows) (c.now.trees (first_tree l))) made.empty.0 it.1.service);
          orders = subst (λ rows. AreOrders rows []) (sym (it.1.orders ∙ made.empty.1.0)) no_orders;
          outbox = subst (λ rows. IsPermutation [] rows) (sym (it.1.outbox ∙ made.empty.1.1.0)) (IsPermutation-refl []);
          accepted = tt;
        };
        gains = record {
          before = before;
          after = after;
          gains = gains;
          was = was;
          is = it.0;
          inbox = λ has.
              let here = stayed before after a.now b.now gains made.changed.rows has in
              it.1.beside here.0 ∙ subst (λ t. b.now.trees t ≡ a.now.trees (inbox_tree before)) (sym here.1) here.2;
        };
      },
      it.2,
    )

-- what a crash may find
pub ends : (a b c end : State) (source : List ℕ) (base : ℕ) → (HasCleanDisk c → IsFounded source base a.now c.now × IsDatabase c.now) → Survives a b (λ _. ⊥) → Survives b c (λ _. ⊥)
    → Survives c end (λ db. db ≡ c.now.trees) → Survives a end (MayFound source base a.now)
ends a b c end source base founded one two three =
    survives_then a c end (λ _. ⊥) _ (MayFound source base a.now) (λ _ db none. absurd none) (λ clean db is. let it = founded (omega (arith, three.clean)) in record { db = c.now; are = is; sound = it.1; founded = it.0 })
    (survives_then a b c _ _ (λ _. ⊥) (λ _ db none. none) (λ _ db none. none) one two) three
