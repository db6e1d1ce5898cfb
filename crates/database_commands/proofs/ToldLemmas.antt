-- What is told of the service of a database.
use Rattle.std.proofs.Common.{◌≡◌, ◌⊎◌, ◌≤◌, inl, inr, Bool, ℕ, List, Ok, Err, IfOk, OnErr, OnOk, Result, [], ◌∷◌, ◌++◌, true, false, refl, sym, ap, ap₂, subst, ◌∙◌}
use Rattle.std.specs.Prelude.{IfSome, None, Option, Some, unwrap_or}
use Rattle.serde_json.specs.Written.{compact_text}
use Rattle.sqlite.specs.Effect.{Database}
use Rattle.attributes.specs.Sequence.{max_sequence}
use Rattle.outbox.specs.Service.{IsService}
use Rattle.outbox.specs.Shown.{CountsOrders, CountsRows, HasNoOther, StandsWithRows}
use Rattle.database_layout.specs.Layout.{has_name}
use Rattle.outbox.specs.declared.fault.OutboxFault.{OutboxFault}
use Rattle.outbox.specs.declared.fault.OutboxFault.TheVariants as outbox
use Rattle.databases.specs.declared.fault.CommandFault.TheVariants as command
use Rattle.databases.specs.Fault.{of_outbox}
use Rattle.databases.specs.Print.{service_data, service_line}
use Rattle.databases.specs.Service.{IsServiceTold, TellsOrFounds, TellsService}
use Rattle.database_commands.specs.steps.Told.{TellsEach}
use Rattle.database_commands.proofs.RowLemmas.{no_service}

pub line_is : (source : List ℕ) (base orders rows : ℕ) (text : List ℕ) → text ≡ compact_text (service_data source base orders rows) → text ++ 10 ∷ [] ≡ service_line source base orders rows
unfolding service_line
line_is source base orders rows text is = ap (λ l. l ++ 10 ∷ []) is

-- ---- a service that is there

-- what is told of the service that was taken over is told of each that the database may stand for
pub told_each : (old mid : Database) (source : List ℕ) (base orders rows : ℕ) (text : List ℕ) → HasNoOther old source base → mid ≡ old → text ≡ service_line source base orders rows
    → CountsOrders mid source base orders → CountsRows mid source base rows → TellsEach old text
told_each old mid source base orders rows text only is line all_orders all_rows s b commands box =
    let same = only s b commands box in
    let here : IsService mid source base commands =
    subst (λ x. IsService mid x base commands) (sym same.0) (subst (λ n. IsService mid s n commands) (sym same.1) (subst (λ db. IsService db s b commands) (sym is) box)) in
    let told : TellsService source base commands text = line ∙ ap₂ (service_line source base) (all_orders commands here) (all_rows commands here) in
    subst (λ x. TellsService x b commands text) same.0 (subst (λ n. TellsService source n commands text) same.1 told)

pub told_is : (old mid : Database) (source : List ℕ) (base last : ℕ) (text : List ℕ) → mid ≡ old → StandsWithRows mid source base last → TellsEach old text → IsServiceTold old text
told_is old mid source base last text is stands each =
    let box : IsService old source base stands.commands = subst (λ db. IsService db source base stands.commands) is stands.table in
    record { source = source; base = base; commands = stands.commands; service = box; line = each source base stands.commands box }

pub there_tells : (given : List ℕ) (start : ℕ) (old new : Database) (text : List ℕ) → has_name old.schema ≡ true → new ≡ old → TellsEach old text → TellsOrFounds given start old new text
there_tells given start old new text there is each s b commands (inl box) = (subst (λ db. IsService db s b commands) (sym is) box, each s b commands box)
there_tells given start old new text there is each s b commands (inr (lacks, _, _, _)) = absurd (let e : ◌≡◌ {A = Bool} true false = sym there ∙ lacks in cc)

pub there_told : (old new : Database) (text : List ℕ) → new ≡ old → IsServiceTold old text → IsServiceTold new text
there_told old new text is told = subst (λ db. IsServiceTold db text) (sym is) told

-- ---- a service that is made

pub made_tells : (given : List ℕ) (start : ℕ) (old new : Database) (text : List ℕ) → has_name old.schema ≡ false → IsService new given start [] → text ≡ service_line given start 0 0 → TellsOrFounds given start old new text
made_tells given start old new text lacks made line s b commands (inl box) = no_service old s b commands (IsService new s b commands × TellsService s b commands text) lacks box
made_tells given start old new text lacks made line s b commands (inr (_, source_is, base_is, none)) = (
  subst (λ x. IsService new x b commands) (sym source_is) (subst (λ n. IsService new given n commands) (sym base_is) (subst (λ l. IsService new given start l) (sym none) made)),
  subst (λ x. TellsService x b commands text) (sym source_is) (subst (λ n. TellsService given n commands text) (sym base_is) (subst (λ l. TellsService given start l text) (sym none) line)),
)

pub made_told : (given : List ℕ) (start : ℕ) (new : Database) (text : List ℕ) → IsService new given start [] → text ≡ service_line given start 0 0 → IsServiceTold new text
made_told given start new text made line = record { source = given; base = start; commands = []; service = made; line = line }

pub base_high : (o : Option ℕ) → IfSome o (λ n. n ≤ max_sequence) → unwrap_or o 0 ≤ max_sequence
base_high None h = omega Rattle.std.proofs.Common.arith
base_high (Some n) h = h

-- ---- results and faults

pub each_err : {T E : Type 0} (r : Result T E) (P : Type 0) → P → OnErr r P
each_err (Ok x) P p = tt
each_err (Err y) P p = p

pub with_ok : {T E : Type 0} (r : Result T E) (P : Type 0) (Q : T → Type 0) → OnOk r P → IfOk r Q → IfOk r (λ x. P × Q x)
with_ok (Ok x) P Q p q = (p, q)
with_ok (Err y) P Q p q = tt

pub foreign_is : (f : OutboxFault) → of_outbox f ≡ command.Foreign → f ≡ outbox.Foreign
foreign_is outbox.OutOfMemory h = absurd (cc)
foreign_is outbox.OrderExists h = absurd (cc)
foreign_is outbox.NoOrder h = absurd (cc)
foreign_is outbox.WrongState h = absurd (cc)
foreign_is outbox.Full h = absurd (cc)
foreign_is outbox.Store h = absurd (cc)
foreign_is outbox.Foreign h = refl

-- a making that isn't refused for a table that is there is refused for want of memory or by the database
pub no_foreign : (f : OutboxFault) → (f ≡ outbox.OutOfMemory) ⊎ ((f ≡ outbox.Store) ⊎ (f ≡ outbox.Foreign)) → (f ≡ outbox.Foreign → ⊥) → (of_outbox f ≡ command.OutOfMemory) ⊎ (of_outbox f ≡ command.Store)
no_foreign f (inl is) none = inl (ap of_outbox is)
no_foreign f (inr (inl is)) none = inr (ap of_outbox is)
no_foreign f (inr (inr is)) none = absurd (none is)

pub base_is : (o : Option ℕ) (base : ℕ) → base ≡ unwrap_or o 0 → IfSome o (λ n. base ≡ n)
base_is None base is = tt
base_is (Some n) base is = is
