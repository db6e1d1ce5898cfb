-- The last event of a list.
use Rattle.std.proofs.Common.{◌≡◌, ℕ, zero, suc, ◌-◌, List, [], ◌∷◌, length, slice_get, Some, refl, ap, ◌∙◌, arith}
use Rattle.attributes.specs.Event.{EventValue}
use Rattle.attributes.specs.Sequence.{number_of}
use Rattle.relay.specs.Relay.{IsLast}

last_at : (mark : ℕ) (rows : List EventValue) (e : EventValue) (n i : ℕ) → suc i ≡ length rows → slice_get rows i ≡ Some e → number_of e ≡ Some n → IsLast mark rows n
last_at mark [] e n i len at is = absurd (omega (arith, len))
last_at mark (x ∷ []) e n zero len at is = let same : x ≡ e = cc in ap number_of same ∙ is
last_at mark (x ∷ []) e n (suc i) len at is = absurd (omega (arith, len))
last_at mark (x ∷ y ∷ rows) e n zero len at is = absurd (omega (arith, len))
last_at mark (x ∷ y ∷ rows) e n (suc i) len at is = last_at mark (y ∷ rows) e n i (omega (arith, len)) at is

pub last_is : (mark : ℕ) (rows : List EventValue) (e : EventValue) (n : ℕ) → slice_get rows (length rows - 1) ≡ Some e → number_of e ≡ Some n → IsLast mark rows n
last_is mark [] e n at is = absurd (cc)
last_is mark (x ∷ rows) e n at is = last_at mark (x ∷ rows) e n (length rows) refl (let k : slice_get (x ∷ rows) (length rows) ≡ Some e = ap (slice_get (x ∷ rows)) (let e : length rows ≡ suc (length rows) - 1 = omega arith in e) ∙ at in k) is
