-- The two statements of a command, and what a crash may find.
use Rattle.std.proofs.Common.{◌≡◌, ℕ, suc, [], ◌∷◌, ◌++◌, Ok, sym, subst, ◌∙◌, arith, IsPermutation}
use Rattle.sqlite.specs.State.{State, HasCleanDisk, Survives, ExecutesInside}
use Rattle.sqlite.proofs.StateLemmas.{survives_then}
use Rattle.database_layout.proofs.LayoutLemmas.{same_inbox}
use Rattle.outbox.specs.Order.{Accepted}
use Rattle.outbox.specs.Layout.{first_tree}
use Rattle.outbox.specs.Service.{AreOrders, outbox_row}
use Rattle.outbox.specs.steps.Change.{AddsCommand, MayAdd}
use Rattle.outbox.proofs.PutLemmas.{appended, accepted_snoc}
use Rattle.outbox.proofs.NoteLemmas.{note_params, notes}
use Rattle.outbox.proofs.InsertLemmas.{append_params, appends}
use Rattle.outbox.proofs.TextLemmas.{note_text, append_text}

pub both : (old mid last : State) (number : ℕ) (c : Accepted) (m n : ℕ) → ExecutesInside 0 note_text (note_params c) old mid (Ok m) → ExecutesInside 0 append_text (append_params number c) mid last (Ok n)
    → AddsCommand number c old.now last.now
both old mid last number c m n one two source base commands is command ok box =
    let a = notes old mid box.layout commands c m box.schema box.orders one.0 in
    let b = appends mid last box.layout number c n a.0 two.0 in
    let tree = first_tree box.layout in
    record {
      service = record {
        layout = box.layout;
        schema = b.0;
        service = b.1.service ∙ a.1.service ∙ box.service;
        orders = subst (λ rows. AreOrders rows (commands ++ c ∷ [])) (sym b.1.orders) a.1.orders;
        outbox = appended (suc base) number commands c (old.now.trees (suc (suc tree))) (last.now.trees (suc (suc tree))) (omega arith) box.outbox (subst (λ rows. IsPermutation (outbox_row number c ∷ rows) (last.now.trees (suc (suc tree)))) a.1.outbox b.1.outbox);
        accepted = accepted_snoc base [] commands c box.accepted command ok;
      };
      beside = record {
        schema = b.0 ∙ sym box.schema;
        inbox = λ l has is.
            let here = same_inbox box.layout.0 l has (sym box.schema ∙ is) in
            subst (λ t. last.now.trees t ≡ old.now.trees t) here.1 (b.1.beside here.0 ∙ a.1.beside here.0);
      };
      sound = b.2;
    }

pub ends : (old mid last end : State) (number : ℕ) (c : Accepted) → (HasCleanDisk last → AddsCommand number c old.now last.now) → Survives old mid (λ _. ⊥) → Survives mid last (λ _. ⊥)
    → Survives last end (λ db. db ≡ last.now.trees) → Survives old end (MayAdd number c old)
ends old mid last end number c adds one two three =
    survives_then old last end (λ _. ⊥) _ (MayAdd number c old) (λ _ db none. absurd none) (λ clean db is. (last.now, adds (omega (arith, three.clean)), is))
    (survives_then old mid last _ _ (λ _. ⊥) (λ _ db none. none) (λ _ db none. none) one two) three
