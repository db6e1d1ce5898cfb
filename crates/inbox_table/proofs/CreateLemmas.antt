-- A new table, and what a crash may find of it.
use Rattle.std.proofs.Common.{◌≡◌, [], ◌∷◌, refl, sym, subst, arith, IsPermutation}
use Rattle.std.proofs.lemmas.List.Sorted.{IsPermutation-refl}
use Rattle.sqlite_catalog.specs.Change.{KeepsRows}
use Rattle.sqlite.specs.Effect.{Database}
use Rattle.sqlite.specs.State.{State, HasCleanDisk, Survives}
use Rattle.sqlite.proofs.StateLemmas.{survives_then}
use Rattle.database_layout.specs.Layout.{GainsInbox2, HasInbox2, HasService, inbox_tree, schema_in}
use Rattle.database_layout.specs.Making.{Makes}
use Rattle.database_layout.specs.declared.layout.Layout.{Layout}
use Rattle.database_layout.specs.declared.layout.Layout.TheVariants.{Empty, Service}
use Rattle.inbox_table.specs.Beside.{HasSameService}
use Rattle.inbox_table.specs.Calls.{IsMade, MayMake}

-- the layout has the table once it is made
gained : (before after : Layout) → GainsInbox2 before after → HasInbox2 after
gained Empty after h = rw h tt
gained Service after h = rw h tt
gained _ after h = absurd h

-- and a service stays where it was
stayed : (before after : Layout) (old new : Database) → GainsInbox2 before after → KeepsRows (schema_in before).tables old.trees new.trees → HasService before → HasSameService before after old new
stayed Empty after old new h kept none = absurd none
stayed Service after old new h kept has = rw h (record { service = kept.0; orders = kept.1.0; outbox = kept.1.1.0 })
stayed _ after old new h kept has = absurd h

pub new_table : (before after : Layout) (a b : State) → GainsInbox2 before after → a.now.schema ≡ schema_in before → Makes (schema_in before) (schema_in after) (inbox_tree after ∷ []) a b → IsMade a.now b.now
new_table before after a b gains was made = record {
  table = record {
    layout = after;
    has = gained before after gains;
    schema = made.changed.schema;
    rows = subst (IsPermutation []) (sym made.empty.0) (IsPermutation-refl []);
    numbered = tt;
    once = refl;
  };
  beside = record {
    before = before;
    after = after;
    gains = gains;
    was = was;
    is = made.changed.schema;
    service = stayed before after a.now b.now gains made.changed.rows;
  };
}

pub ends : (before after : Layout) (a b end : State) → GainsInbox2 before after → a.now.schema ≡ schema_in before → (HasCleanDisk b → Makes (schema_in before) (schema_in after) (inbox_tree after ∷ []) a b)
    → Survives a b (λ _. ⊥) → Survives b end (λ db. db ≡ b.now.trees) → Survives a end (MayMake a.now)
ends before after a b end gains was made one two =
    survives_then a b end (λ _. ⊥) _ (MayMake a.now) (λ _ db none. absurd none)
    (λ clean db is. let it = made (omega (arith, two.clean)) in record { db = b.now; are = is; sound = it.changed.sound; made = new_table before after a b gains was it }) one two
