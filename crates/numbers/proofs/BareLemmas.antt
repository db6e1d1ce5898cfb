-- An event from which its number is taken again.
use Rattle.std.proofs.Common.{◌≡◌, ◌≤◌, ◌+◌, ℕ, List, [], ◌∷◌, Bool, true, false, bytes_eq, codes, if◌then◌else◌, is_some, length, nat_lt, Option, Some, None, refl, sym, subst, ap, ap₂, ◌∙◌, arith, true≢false, IsUtf8}
use Rattle.std.specs.declared.cmp.Ordering.{Ordering}
use Rattle.std.specs.declared.cmp.Ordering.TheVariants.{Less, Equal, Greater}
use Rattle.std.specs.Ordering.{match_ordering}
use Rattle.std.proofs.lemmas.Bool.Decides.{nat_tests}
use Rattle.std.proofs.lemmas.Cmp.{nat_list_cmp_total, tied_itself}
use Rattle.base64.specs.Engines.{standard}
use Rattle.base64.specs.GeneralPurpose.{encode_of}
use Rattle.serde_json.specs.Data.{Data, string, Members, no_members, member, object, put}
use Rattle.serde_json.specs.Find.{get_member}
use Rattle.serde_json.specs.Written.{compact_text}
use Rattle.serde_json.proofs.Views.{get_member-put_other}
use Rattle.attributes.specs.Bytes.{byte_cmp}
use Rattle.attributes.specs.Event.{EventValue, direct, json_of, members_of, text, with_content}
use Rattle.attributes.specs.Fault.{IsEvent, max_text}
use Rattle.attributes.specs.Members.{value_at}
use Rattle.attributes.specs.Sequence.{number_of, sequence_of}
use Rattle.attributes.specs.declared.content.Content.{Content}
use Rattle.attributes.specs.declared.content.Content.TheVariants as content
use Rattle.attributes.specs.declared.scalar.Scalar.{Scalar}
use Rattle.attributes.proofs.EventLemmas.{members_direct}
use Rattle.attributes.proofs.LawLemmas.{same_text}
use Rattle.event_json.specs.Reading.{Reads}
use Rattle.numbers.specs.Aside.{without}
use Rattle.numbers.specs.Numbered.{HasNone, HasNumber, IsBare, with_sequence}
use Rattle.numbers.specs.Refusal.{refusal_at}
use Rattle.numbers.specs.declared.fault.NumberFault.TheVariants.{HasSequence, TooLarge}
use Rattle.numbers.proofs.EventLemmas.{numbered_fits}
use Rattle.numbers.proofs.NumberedLemmas.{numbered_events, tie_tells}
use Rattle.numbers.proofs.PutLemmas.{numbered_members}

abbrev key : List ℕ
key = codes "sequence"

-- what was put where nothing was is taken out again
without_put : (k : List ℕ) (d : Data) (ms : Members) → get_member k ms ≡ None → without k (put k d ms) ≡ ms
without_put k d no_members h = ap (λ o. match_ordering o (member k d no_members) no_members (member k d no_members)) (tied_itself nat_list_cmp_total k)
without_put k d (member l x ms) h = by (byte_cmp k l) refl h (without_put k d ms)
  where
    by : (o : Ordering) → byte_cmp k l ≡ o → match_ordering o (get_member k ms) (Some x) (get_member k ms) ≡ None → (get_member k ms ≡ None → without k (put k d ms) ≡ ms)
        → without k (match_ordering o (member k d (member l x ms)) (member l d ms) (member l x (put k d ms))) ≡ member l x ms
    by Less e g f =
        let rest = without k (member l x ms) in
        ap (λ o. match_ordering o (member k d rest) (member l x ms) (member k d rest)) (tied_itself nat_list_cmp_total k)
    by Equal e g f = absurd (cc)
    by Greater e g f =
        let rest = without k (put k d ms) in
        ap (λ o. match_ordering o (member l x rest) (put k d ms) (member l x rest)) e ∙ ap (λ m. member l x m) (f g)

parts : {X : Type 0} (b : Bool) (y : X) (o : Option X) → (if b then Some y else o) ≡ None → (b ≡ false) × (o ≡ None)
parts true y o h = absurd (cc)
parts false y o h = (refl, h)

no_member : (k : List ℕ) (attributes : List (List ℕ × Scalar)) → value_at k attributes ≡ None → get_member k (direct attributes) ≡ None
no_member k [] h = refl
no_member k (a ∷ rest) h =
    let two = parts (bytes_eq k a.0) a.1 (value_at k rest) h in
    by (byte_cmp k a.0) refl two.0 (no_member k rest two.1)
  where
    by : (o : Ordering) → byte_cmp k a.0 ≡ o → bytes_eq k a.0 ≡ false → get_member k (direct rest) ≡ None → match_ordering o (get_member k (direct rest)) (Some (json_of a.1)) (get_member k (direct rest)) ≡ None
    by Less e apart f = f
    by Equal e apart f = absurd (true≢false (sym (tie_tells k a.0 Equal e) ∙ apart))
    by Greater e apart f = f

not_tree : key ≡ codes "data" → ⊥
not_tree e = cc

not_bytes : key ≡ codes "data_base64" → ⊥
not_bytes e = cc

no_payload : (c : Content) (ms : Members) → get_member key ms ≡ None → get_member key (with_content c ms) ≡ None
no_payload content.Nothing ms h = h
no_payload (content.Tree d) ms h = get_member-put_other key (codes "data") d ms not_tree ∙ h
no_payload (content.Bytes b) ms h = get_member-put_other key (codes "data_base64") (string (encode_of standard b)) ms not_bytes ∙ h

bare_members : (e : EventValue) (t : List ℕ) → IsEvent e → HasNone e → without key (members_of (with_sequence t e)) ≡ members_of e
bare_members e t h none =
    ap (without key) (numbered_members e t h)
    ∙ without_put key (string t) (members_of e) (ap (get_member key) (members_direct e h) ∙ no_payload e.content (direct e.attributes) (no_member key e.attributes none))

-- the text without the number is that of before
bare_text : (e x : EventValue) (n : ℕ) → IsBare e → HasNumber n e x → compact_text (object (without key (members_of x))) ≡ text e
bare_text e x n bare has =
    ap (λ (y : EventValue). compact_text (object (without key (members_of y)))) has.is
    ∙ ap (λ (ms : Members). compact_text (object ms)) (bare_members e has.digits bare.event bare.none)

-- so it is read as the event of before
pub reads_back : ((e : EventValue) → IsEvent e → Reads (text e) (e ∷ [])) → (e x y : EventValue) (n : ℕ) (b s : List ℕ) → b ≡ s → s ≡ compact_text (object (without key (members_of y))) → y ≡ x → IsBare e → HasNumber n e x → Reads b (e ∷ [])
reads_back law e x y n b s bytes text_is same bare has =
    subst (λ t. Reads t (e ∷ [])) (sym (bytes ∙ text_is ∙ ap (λ (z : EventValue). compact_text (object (without key (members_of z)))) same ∙ bare_text e x n bare has)) (law e bare.event)

no_lt : (m : ℕ) → m ≤ max_text → nat_lt max_text m ≡ false
no_lt m l = grind (arith, nat_tests)

-- and it is one that may be numbered
pub none_at : (i : ℕ) (e : EventValue) → IsBare e → refusal_at i e ≡ None
none_at i e bare =
    let long = nat_lt max_text (length (text e) + 34) in
    ap (λ (o : Option Scalar). if is_some o then Some (HasSequence i) else if long then Some (TooLarge i) else None) bare.none
    ∙ ap (λ (b : Bool). if b then Some (TooLarge i) else None) (no_lt (length (text e) + 34) bare.fits)

some_is : (m n : ℕ) → Some m ≡ Some n → m ≡ n
some_is m n h = cc

-- numbered again it is what it was
pub again_is : (e f x y : EventValue) (n m : ℕ) → HasNumber n e x → number_of x ≡ Some m → f ≡ e → HasNumber m f y → y ≡ x
again_is e f x y n m has own same again =
    let number : m ≡ n = some_is m n (sym own ∙ ap number_of has.is ∙ numbered_events.number e has.digits n has.number) in
    let digits : again.digits ≡ has.digits = numbered_events.one_text again.digits has.digits n (again.number ∙ ap (λ k. Some k) number) has.number in
    again.is ∙ ap₂ (λ (t : List ℕ) (g : EventValue). with_sequence t g) digits same ∙ sym has.is

-- so has the text that it is given
pub row_text : (e x : EventValue) (t : List ℕ) (n m : ℕ) → sequence_of t ≡ Some m → number_of x ≡ Some m → HasNumber n e x → text (with_sequence t e) ≡ text x
row_text e x t n m seq own has = ap text (again_is e e x (with_sequence t e) n m has own refl (record { digits = t; number = seq; is = refl }))

-- and what has that text is the event with its number
pub row_is : (e x : EventValue) (t : List ℕ) (n : ℕ) → IsBare e → IsEvent x → sequence_of t ≡ Some n → text (with_sequence t e) ≡ text x → HasNumber n e x
row_is e x t n bare event seq same =
    let utf8 : IsUtf8 (text (with_sequence t e)) = subst IsUtf8 (sym same) event.utf8 in
    let its : IsEvent (with_sequence t e) = numbered_fits.event e t n bare.event bare.none seq bare.fits utf8 in
    record { digits = t; number = seq; is = same_text x (with_sequence t e) event its (sym same) }
