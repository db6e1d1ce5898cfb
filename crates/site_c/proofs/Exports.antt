-- What the exports on a value in a room share: the value is read, handed on with the other arguments, and what comes back is written.
use seplogic.Ra.Ura.{Ura}
use mir.Syntax.{Width, Ty, ty_int, named, ty_unit, ty_ptr, Callee, Fn, Local, local, value_local, place, deref, Opd, copy, opd_unit, rv_opd, addr_of, seq, assign, call, return}
use mir.Val.{vptr, WT, has_ty, bytes}
use lib.Dec.{T, eqb_refl}
use base.Logic.{SProp, ent}
use base.Fml.{Fml}
use prog.Wp.{Calls, Loops, Closed}
use prog.Model.{Model}
use contract.Running.{Running}
use denote.Plain.{UInt}
use denote.Signature.{mut_ref_to, shr_slice_of}
use denote.Triple.Clauses.{Ended, Clauses, closing}
use denote.Triple.Spec.{Meets}
use types.Logic.{Logic}
use types.Kit.{Item, Goal, Soaks, Seq, Sq, Step, step}
use sound.WpLaws.{FmC}
use denote.RattleType.{RattleType}
use denote.RawPtr.{ptr_val}
use denote.Triple.Call.{calls_from}
use borrow.Table.OneValue.{One}
use Rattle.site_c.proofs.Steps.{ℕ, zero, suc, ◌+◌, List, [], ◌∷◌, ◌++◌, refl, full_share, id⊢, emp, ex, ex_i, sep, ftrue, fsep, feq, fat, Val, vunit, fact, fact_i, WpFn, sem, ‵, raw, ◌⊛◌, some, later, prop, ◌$◌, ◌∵◌, !, qed, by, move, keep, drop, use0, use1, split, join, fsplit, fjoin, feq_i, feq_l, pick, await, regoal, enter, of_opd, unit_lit, addr, load, look, store, forget, stop, no_more, and_then, assigns, returns, alloc_all, pass_all, free_all, look_at, get, through, sets, lands_as, Is, shows, part_at, lone, Ptr, RawPtr, block_ptr, lies_at, room_at, in_a_block, rawptr_vals, nothing, heard, peeks, only, unit, ap, part_out, part_in, proved, leaves, tables, framed, yes, owns, u8, ShrSlice, MutRef, rawptr_Tells, mut_vals, mut_Tells, shr_slice_vals, shr_slice_Tells, uint_vals, uint_Tells, plain, Lasts, left, lasts_of, alive, Stays, walk_of, stay_dropped, gave_ref, Goes-dropped, Goes-gave_ref}

-- the code: where the value lies, the value, what the call returns and the reference that is lent on follow the parameters
abbrev pub keeping : ℕ → ℕ → List Local → Ty → Ty → Ty → Callee → List Opd → Fn
keeping lives n params τ lent α k others = record {
  lifetimes = lives;
  outlives = [];
  ty_params = [];
  givens = 0;
  params = n;
  locals = local ty_unit value_local ∷ local ty_ptr value_local ∷ (params ++ (local ty_ptr value_local ∷ local τ value_local ∷ local τ value_local ∷ local lent value_local ∷ []));
  body =
      seq (assign (place (n + 1) []) (rv_opd (copy (place 1 [])))) (
      seq (assign (place (n + 3) []) (rv_opd (copy (place (n + 1) (deref τ ∷ []))))) (
      seq (assign (place (n + 4) []) (addr_of (place n (deref α ∷ [])))) (
      seq (call k (copy (place (n + 3) []) ∷ (others ++ (copy (place (n + 4) []) ∷ []))) (place (n + 2) [])) (
      seq (assign (place (n + 1) (deref τ ∷ [])) (rv_opd (copy (place (n + 2) [])))) (
      seq (assign (place 0 []) (rv_opd opd_unit)) return)))));
}

-- the same of one that gives nothing back
abbrev letting_go : Ty → Callee → Fn
letting_go τ k = record {
  lifetimes = 0;
  outlives = [];
  ty_params = [];
  givens = 0;
  params = 1;
  locals = local ty_unit value_local ∷ local ty_ptr value_local ∷ local ty_unit value_local ∷ local ty_ptr value_local ∷ local τ value_local ∷ [];
  body =
      seq (assign (place 3 []) (rv_opd (copy (place 1 [])))) (
      seq (assign (place 4 []) (rv_opd (copy (place 3 (deref τ ∷ []))))) (
      seq (call k (copy (place 4 []) ∷ []) (place 2 [])) (
      seq (assign (place 0 []) (rv_opd opd_unit)) return)));
}

-- the one machine value of a type that has one
abbrev pub head : List Val → Val
head [] = vunit
head (v ∷ vs) = v

-- a list without its first
abbrev pub behind {χ} : {X : Type χ} → List X → List X
behind [] = []
behind (x ∷ xs) = xs

-- the type of a local
abbrev pub type_of : ℕ → List Local → Ty
type_of n [] = ty_unit
type_of zero (local τ h ∷ ls) = τ
type_of (suc n) (local τ h ∷ ls) = type_of n ls

-- the machine value is one of the type
abbrev pub Has : Ty → Val → Type 0
Has τ v = T (has_ty τ v) × WT v

-- a value lies at the place, and what a call by a value of its type makes of it is the callee's
module _ {M : Type 1} {𝓤 : Ura M} (𝓛 : Logic 𝓤) (R : RattleType) (one : One R) (typed : (h : R.Denot) (v : Val) → Is R h (v ∷ []) → Has (lone R.mir) v)
    (C : Calls 𝓤 𝓛.H) (fm : FmC 𝓤 𝓛.H 𝓛.laws C) (Λ : Loops 𝓤 𝓛.H) (k : Callee) (tokens : SProp 𝓤) (others : Fml) (p : Ptr) (h : R.Denot)
    (Q : Ptr → Val → SProp 𝓤) where
  open 𝓛 use {H}

  abbrev τ : Ty
  τ = lone R.mir

  -- what there is on entry, where the value is and where the place is
  abbrev Entry : Item 𝓤
  Entry = raw tokens ⊛ ‵ (fsep (RawPtr.own_val p (rawptr_vals p)) others)

  abbrev Given : Val → Item 𝓤
  Given v = (raw tokens ⊛ ‵ (fsep (R.own_val h (v ∷ [])) others)) ⊛ ‵ ftrue

  -- the call with these arguments behind the value leaves this
  abbrev Called : List Val → (Val → SProp 𝓤) → Type 1
  Called xs Left = (v : Val) → ent 𝓤 (sep 𝓤 (sep 𝓤 tokens (sem 𝓛 (fsep (R.own_val h (v ∷ [])) others))) (emp 𝓤)) (C k (v ∷ xs) Left)

  abbrev Walks : Fn → List Val → Type 1
  Walks fn xs = ent 𝓤 (sep 𝓤 (sep 𝓤 tokens (sem 𝓛 (fsep (RawPtr.own_val p (rawptr_vals p)) others))) (sem 𝓛 (lies_at R full_share p h))) (WpFn 𝓤 H C Λ fn (rawptr_vals p ++ xs) (Q p))

  -- the value and its cell
  starts : (fn : Fn) (xs : List Val) → ((b o : ℕ) (v : Val) → Has τ v
      → Sq 𝓛 (‵ (R.own_val h (v ∷ [])) ∷ ‵ (fat full_share τ b o v) ∷ Entry ∷ []) (prop (WpFn 𝓤 H C Λ fn (ptr_val (block_ptr b o) ∷ xs) (Q (block_ptr b o))))) → Walks fn xs
  starts fn xs run =
      qed 𝓛 (Entry ∷ ‵ (lies_at R full_share p h) ∷ []) ∵ move ! (1 ∷ []) $
      in_a_block ! p (λ q. lies_at R full_share q h) (id⊢ 𝓤 _) (λ b o e.
      regoal ! (λ q. prop (WpFn 𝓤 H C Λ fn (rawptr_vals q ++ xs) (Q q))) e refl $
      use1 𝓛 (some (λ (v : Val). ‵ (fat full_share τ b o v) ⊛ ‵ (R.own_val h (v ∷ [])))) (part_out 𝓛 R one full_share h b o) $ pick ! (λ v. split ! $ move ! (1 ∷ []) $
      peeks ! R (Is R) (shows 𝓛 R) h (v ∷ []) (λ is. run b o v (typed h v is))))

  -- [the value; its cell; the tokens and the parameters; the locals]: what the call is given of these comes first, then the cell
  hands : {K : Type 0} {Γ : List (Item 𝓤)} {G : Goal 𝓤 H} → K → (v : Val) {i : Item 𝓤} → Step K 𝓛 (Given v ∷ i ∷ Γ) G (‵ (R.own_val h (v ∷ [])) ∷ i ∷ Entry ∷ Γ) G
  hands t v = step (λ s.
      move t (2 ∷ []) $ split t $ move t (1 ∷ []) $ fsplit t $ drop t $
      move t (2 ∷ 0 ∷ []) $ fjoin t $ move t (1 ∷ 0 ∷ []) $ join t $ nothing t $ move t (1 ∷ 0 ∷ []) $ join t $ s)

  -- the callee takes it and gives nothing but a promise, and the place is room
  module _ {Ws : Type 0} (L : Ws → Fml) (Φ : Type 0) (ends : (q : Ptr) → ent 𝓤 (sep 𝓤 tokens (sep 𝓤 (sem 𝓛 (fsep ftrue ftrue))
      (sep 𝓤 (sem 𝓛 (feq (List Val) (vunit ∷ []) (vunit ∷ []))) (sep 𝓤 (sem 𝓛 (room_at R q)) (fact 𝓤 Φ))))) (Q q vunit)) where
    abbrev Shut : Val → SProp 𝓤
    Shut u = H.⇛ (ex 𝓤 (λ (r : Unit {0}). sep 𝓤 (sep 𝓤 tokens (sem 𝓛 (unit.own_val r (u ∷ [])))) (ex 𝓤 (λ (ws : Ws). sep 𝓤 (sem 𝓛 (L ws)) (fact 𝓤 Φ)))))

    pub closes_it : Called [] Shut → Walks (letting_go τ k) []
    closes_it met = starts _ _ (λ b o v t.
        enter ! _ _ _ _ _ $ alloc_all ! (λ l. pass_all ! refl ((tt, tt), tt) $
        sets ! (of_opd ! (get ! refl)) refl (tt, tt) $
        sets ! (of_opd ! (load ! (through ! refl (stop !)) (look ! 1 refl))) refl t $ hands ! v $
        calls_from ! fm (Given v) (v ∷ []) Shut (met v) (and_then ! (get ! refl) (no_more !)) (λ u.
        use1 𝓛 (later (some (λ (r : Unit {0}). (raw tokens ⊛ ‵ (unit.own_val r (u ∷ []))) ⊛ some (λ (ws : Ws). ‵ (L ws) ⊛ raw (fact 𝓤 Φ))))) (id⊢ 𝓤 _) $
        await ! tt $ pick ! (λ r. split ! $ move ! (1 ∷ []) $ pick ! (λ ws. split ! $ drop ! $ heard ! Φ (λ told. split ! $ move ! (1 ∷ []) $ feq_l ! (λ is_unit.
        lands_as ! (ap only is_unit) refl (tt, tt) $
        sets ! (of_opd ! (unit_lit !)) refl (tt, tt) $
        returns ! (look_at ! 0 refl) $ free_all ! refl $
        -- [the tokens; the cell]
        move ! (1 ∷ []) $ forget ! 0 refl $ use1 𝓛 (‵ (room_at R (block_ptr b o))) (id⊢ 𝓤 _) $
        use0 𝓛 (raw (fact 𝓤 Φ)) (fact_i 𝓤 Φ (emp 𝓤) told) $ move ! (1 ∷ 0 ∷ []) $ join ! $
        feq_i ! (List Val) (vunit ∷ []) (vunit ∷ []) refl $ nothing ! $ nothing ! $ fjoin ! $
        keep ! (3 ∷ 0 ∷ 1 ∷ 2 ∷ []) $ by ! (ends (block_ptr b o)))))))))

  -- the callee gives one back, and the relation says which
  module _ {Ws : Type 0} (L₀ L₁ : Ws → Fml) (Φ : R.Denot → Ws → Type 0)
      (ends : (q : Ptr) (ws : Ws) → ent 𝓤 (sep 𝓤 tokens (sep 𝓤 (sem 𝓛 (fsep ftrue (L₁ ws))) (sep 𝓤 (sem 𝓛 (feq (List Val) (vunit ∷ []) (vunit ∷ [])))
      (ex 𝓤 (λ (r : R.Denot). sep 𝓤 (sem 𝓛 (lies_at R full_share q r)) (fact 𝓤 (Φ r ws))))))) (Q q vunit)) where
    abbrev L : Ws → Fml
    L ws = fsep (L₀ ws) (L₁ ws)

    -- what the call leaves
    abbrev Back : Val → SProp 𝓤
    Back u = H.⇛ (ex 𝓤 (λ (r : R.Denot). sep 𝓤 (sep 𝓤 tokens (sem 𝓛 (R.own_val r (u ∷ [])))) (ex 𝓤 (λ (ws : Ws). sep 𝓤 (sem 𝓛 (L ws)) (fact 𝓤 (Φ r ws))))))

    -- what the call left is taken apart: [the value; the tokens; the last values]
    back : {K : Type 0} {Γ : List (Item 𝓤)} {G : Goal 𝓤 H} → K → Soaks G → (u : Val)
        → ((r : R.Denot) (ws : Ws) → Φ r ws → Has τ u → Seq K 𝓛 (‵ (R.own_val r (u ∷ [])) ∷ raw tokens ∷ ‵ (L ws) ∷ Γ) G) → Seq K 𝓛 (raw (Back u) ∷ Γ) G
    back t z u run =
        use1 𝓛 (later (some (λ (r : R.Denot). (raw tokens ⊛ ‵ (R.own_val r (u ∷ []))) ⊛ some (λ (ws : Ws). ‵ (L ws) ⊛ raw (fact 𝓤 (Φ r ws)))))) (id⊢ 𝓤 _) $
        await t z $ pick t (λ r. split t $ move t (1 ∷ []) $ pick t (λ ws. split t $ move t (1 ∷ []) $ heard t (Φ r ws) (λ told. move t (1 ∷ []) $ split t $ move t (1 ∷ []) $
        peeks t R (Is R) (shows 𝓛 R) r (u ∷ []) (λ is. run r ws told (typed r u is)))))

    -- what lies there at the end
    leaves_it : (r : R.Denot) (ws : Ws) → Φ r ws → (b o : ℕ) (u : Val)
        → Sq 𝓛 (‵ (R.own_val r (u ∷ [])) ∷ raw tokens ∷ ‵ (L ws) ∷ ‵ (fat full_share τ b o u) ∷ []) (prop (Q (block_ptr b o) vunit))
    leaves_it r ws told b o u =
        let lies = λ (x : R.Denot). sep 𝓤 (sem 𝓛 (lies_at R full_share (block_ptr b o) x)) (fact 𝓤 (Φ x ws)) in
        move ! (3 ∷ 0 ∷ []) $ join ! $ use1 𝓛 (‵ (part_at R full_share r b o)) (part_in 𝓛 R one full_share r b o u) $
        use0 𝓛 (raw (fact 𝓤 (Φ r ws))) (fact_i 𝓤 (Φ r ws) (emp 𝓤) told) $ move ! (1 ∷ 0 ∷ []) $ join ! $
        use1 𝓛 (raw (ex 𝓤 lies)) (ex_i 𝓤 lies r) $
        feq_i ! (List Val) (vunit ∷ []) (vunit ∷ []) refl $ move ! (3 ∷ []) $ fsplit ! $ drop ! $ nothing ! $ fjoin ! $ keep ! (3 ∷ 0 ∷ 1 ∷ 2 ∷ []) $ by ! (ends (block_ptr b o) ws)

    module _ (lives : ℕ) (ρ ϱ α : Ty) (rb ro : ℕ) (given : Has ρ (vptr rb ro)) (lent : Has ϱ (vptr rb ro)) where
      abbrev reply : Local
      reply = local ρ value_local

      -- with no argument before the reply
      pub keeps_0 : Called (vptr rb ro ∷ []) Back → Walks (keeping lives 2 (reply ∷ []) τ ϱ α k ([])) (vptr rb ro ∷ [])
      keeps_0 met = starts _ _ (λ b o v t.
          enter ! _ _ _ _ _ $ alloc_all ! (λ l. pass_all ! refl ((tt, tt), (given, tt)) $
          sets ! (of_opd ! (get ! refl)) refl (tt, tt) $
          sets ! (of_opd ! (load ! (through ! refl (stop !)) (look ! 1 refl))) refl t $
          sets ! (addr ! (through ! refl (stop !))) refl lent $ hands ! v $
          calls_from ! fm (Given v) (v ∷ vptr rb ro ∷ []) Back (met v) (and_then ! (get ! refl) (and_then ! (get ! refl) (no_more !))) (λ u.
          back ! tt u (λ r ws told t'. lands_as ! refl refl t' $
          assigns ! (of_opd ! (get ! refl)) (through ! refl (stop !)) (store ! 3 refl t') $
          sets ! (of_opd ! (unit_lit !)) refl (tt, tt) $
          returns ! (look_at ! 0 refl) $ free_all ! refl $ leaves_it r ws told b o u))))

      -- with one argument before the reply
      pub keeps_1 : (σ : Ty) (x : Val) → Has σ x → Called (x ∷ vptr rb ro ∷ []) Back → Walks (keeping lives 3 (local σ value_local ∷ reply ∷ []) τ ϱ α k (copy (place 2 []) ∷ [])) (x ∷ vptr rb ro ∷ [])
      keeps_1 σ x tx met = starts _ _ (λ b o v t.
          enter ! _ _ _ _ _ $ alloc_all ! (λ l. pass_all ! refl ((tt, tt), (tx, (given, tt))) $
          sets ! (of_opd ! (get ! refl)) refl (tt, tt) $
          sets ! (of_opd ! (load ! (through ! refl (stop !)) (look ! 1 refl))) refl t $
          sets ! (addr ! (through ! refl (stop !))) refl lent $ hands ! v $
          calls_from ! fm (Given v) (v ∷ x ∷ vptr rb ro ∷ []) Back (met v) (and_then ! (get ! refl) (and_then ! (get ! refl) (and_then ! (get ! refl) (no_more !)))) (λ u.
          back ! tt u (λ r ws told t'. lands_as ! refl refl t' $
          assigns ! (of_opd ! (get ! refl)) (through ! refl (stop !)) (store ! 3 refl t') $
          sets ! (of_opd ! (unit_lit !)) refl (tt, tt) $
          returns ! (look_at ! 0 refl) $ free_all ! refl $ leaves_it r ws told b o u))))

      -- with two arguments before the reply
      pub keeps_2 : (σ : Ty) (x : Val) → Has σ x → (ς : Ty) (y : Val) → Has ς y → Called (x ∷ y ∷ vptr rb ro ∷ []) Back → Walks (keeping lives 4 (local σ value_local ∷ local ς value_local ∷ reply ∷ []) τ ϱ α k (copy (place 2 []) ∷ copy (place 3 []) ∷ [])) (x ∷ y ∷ vptr rb ro ∷ [])
      keeps_2 σ x tx ς y ty met = starts _ _ (λ b o v t.
          enter ! _ _ _ _ _ $ alloc_all ! (λ l. pass_all ! refl ((tt, tt), (tx, (ty, (given, tt)))) $
          sets ! (of_opd ! (get ! refl)) refl (tt, tt) $
          sets ! (of_opd ! (load ! (through ! refl (stop !)) (look ! 1 refl))) refl t $
          sets ! (addr ! (through ! refl (stop !))) refl lent $ hands ! v $
          calls_from ! fm (Given v) (v ∷ x ∷ y ∷ vptr rb ro ∷ []) Back (met v) (and_then ! (get ! refl) (and_then ! (get ! refl) (and_then ! (get ! refl) (and_then ! (get ! refl) (no_more !))))) (λ u.
          back ! tt u (λ r ws told t'. lands_as ! refl refl t' $
          assigns ! (of_opd ! (get ! refl)) (through ! refl (stop !)) (store ! 3 refl t') $
          sets ! (of_opd ! (unit_lit !)) refl (tt, tt) $
          returns ! (look_at ! 0 refl) $ free_all ! refl $ leaves_it r ws told b o u))))

      -- with three arguments before the reply
      pub keeps_3 : (σ : Ty) (x : Val) → Has σ x → (ς : Ty) (y : Val) → Has ς y → (τ₃ : Ty) (z : Val) → Has τ₃ z → Called (x ∷ y ∷ z ∷ vptr rb ro ∷ []) Back → Walks (keeping lives 5 (local σ value_local ∷ local ς value_local ∷ local τ₃ value_local ∷ reply ∷ []) τ ϱ α k (copy (place 2 []) ∷ copy (place 3 []) ∷ copy (place 4 []) ∷ [])) (x ∷ y ∷ z ∷ vptr rb ro ∷ [])
      keeps_3 σ x tx ς y ty τ₃ z tz met = starts _ _ (λ b o v t.
          enter ! _ _ _ _ _ $ alloc_all ! (λ l. pass_all ! refl ((tt, tt), (tx, (ty, (tz, (given, tt))))) $
          sets ! (of_opd ! (get ! refl)) refl (tt, tt) $
          sets ! (of_opd ! (load ! (through ! refl (stop !)) (look ! 1 refl))) refl t $
          sets ! (addr ! (through ! refl (stop !))) refl lent $ hands ! v $
          calls_from ! fm (Given v) (v ∷ x ∷ y ∷ z ∷ vptr rb ro ∷ []) Back (met v) (and_then ! (get ! refl) (and_then ! (get ! refl) (and_then ! (get ! refl) (and_then ! (get ! refl) (and_then ! (get ! refl) (no_more !)))))) (λ u.
          back ! tt u (λ r ws told t'. lands_as ! refl refl t' $
          assigns ! (of_opd ! (get ! refl)) (through ! refl (stop !)) (store ! 3 refl t') $
          sets ! (of_opd ! (unit_lit !)) refl (tt, tt) $
          returns ! (look_at ! 0 refl) $ free_all ! refl $ leaves_it r ws told b o u))))

      -- with four arguments before the reply
      pub keeps_4 : (σ : Ty) (x : Val) → Has σ x → (ς : Ty) (y : Val) → Has ς y → (τ₃ : Ty) (z : Val) → Has τ₃ z → (τ₄ : Ty) (w : Val) → Has τ₄ w → Called (x ∷ y ∷ z ∷ w ∷ vptr rb ro ∷ []) Back → Walks (keeping lives 6 (local σ value_local ∷ local ς value_local ∷ local τ₃ value_local ∷ local τ₄ value_local ∷ reply ∷ []) τ ϱ α k (copy (place 2 []) ∷ copy (place 3 []) ∷ copy (place 4 []) ∷ copy (place 5 []) ∷ [])) (x ∷ y ∷ z ∷ w ∷ vptr rb ro ∷ [])
      keeps_4 σ x tx ς y ty τ₃ z tz τ₄ w tw met = starts _ _ (λ b o v t.
          enter ! _ _ _ _ _ $ alloc_all ! (λ l. pass_all ! refl ((tt, tt), (tx, (ty, (tz, (tw, (given, tt)))))) $
          sets ! (of_opd ! (get ! refl)) refl (tt, tt) $
          sets ! (of_opd ! (load ! (through ! refl (stop !)) (look ! 1 refl))) refl t $
          sets ! (addr ! (through ! refl (stop !))) refl lent $ hands ! v $
          calls_from ! fm (Given v) (v ∷ x ∷ y ∷ z ∷ w ∷ vptr rb ro ∷ []) Back (met v) (and_then ! (get ! refl) (and_then ! (get ! refl) (and_then ! (get ! refl) (and_then ! (get ! refl) (and_then ! (get ! refl) (and_then ! (get ! refl) (no_more !))))))) (λ u.
          back ! tt u (λ r ws told t'. lands_as ! refl refl t' $
          assigns ! (of_opd ! (get ! refl)) (through ! refl (stop !)) (store ! 3 refl t') $
          sets ! (of_opd ! (unit_lit !)) refl (tt, tt) $
          returns ! (look_at ! 0 refl) $ free_all ! refl $ leaves_it r ws told b o u))))

-- an export that takes a number beside the place: its contract, that of what it calls, and its proof
module _ (R A : RattleType) (w : Width) (Rel : ℕ → R.Denot → R.Denot → A.Denot → A.Denot → Type 0) where
  abbrev pub Number : Ended
  Number = record {
    signature = record { lifetimes = 1; outlives = []; params = plain (λ κs. RawPtr) ∷ plain (λ κs. UInt w) ∷ mut_ref_to (0 ∷ []) tt (plain (λ κs. A)) ∷ []; result = plain (λ κs. unit) };
    kept = (yes, (yes, (yes, tt)));
  }

  abbrev pub NumberOf : Ended
  NumberOf = record {
    signature = record { lifetimes = 1; outlives = []; params = plain (λ κs. R) ∷ plain (λ κs. UInt w) ∷ mut_ref_to (0 ∷ []) tt (plain (λ κs. A)) ∷ []; result = plain (λ κs. R) };
    kept = (yes, (yes, (yes, tt)));
  }

  module _ {M : Type 1} {𝓤 : Ura M} (𝓛 : Logic 𝓤) where
    abbrev pub number_clauses : Clauses 𝓤 Number
    number_clauses κs a = record {
      ghost = R.Denot;
      requires = λ h. sem 𝓛 (lies_at R full_share a.0 h);
      ensures = λ h res out. ex 𝓤 (λ (r : R.Denot). sep 𝓤 (sem 𝓛 (lies_at R full_share a.0 r)) (fact 𝓤 (Rel a.1.0 h r a.1.1.0.now out.1.1.0.now)));
    }

    abbrev pub number_of_clauses : Clauses 𝓤 NumberOf
    number_of_clauses κs a = record { ghost = Unit {0}; requires = λ _. emp 𝓤; ensures = λ _ r out. fact 𝓤 (Rel a.1.0 a.0 r a.1.1.0.now out.1.1.0.now) }

    abbrev number_stayed : Stays Number.signature.params Number.kept
    number_stayed = (stay_dropped _ yes, (stay_dropped _ yes, (gave_ref (0 ∷ []) tt (plain (λ _. A)), tt)))

    pub number_kept : One R → ((h : R.Denot) (v : Val) → Is R h (v ∷ []) → Has (lone R.mir) v) → (𝓜 : Model 𝓤 𝓛.H) (𝓡 : Running 𝓤 𝓛.H 𝓜) (key callee : Callee)
        (ρ ϱ : Ty) → ((b o : ℕ) → Has ρ (vptr b o)) → ((b o : ℕ) → Has ϱ (vptr b o))
        → Closed 𝓤 𝓛.H (tables 𝓤 𝓛.H 𝓜 𝓡 𝓡.env).C (tables 𝓤 𝓛.H 𝓜 𝓡 𝓡.env).Λ key
        (keeping 1 3 (local (ty_int w) value_local ∷ local ρ value_local ∷ []) (lone R.mir) ϱ (lone A.mir) callee (copy (place 2 []) ∷ []))
        → Meets 𝓛 NumberOf.signature ((tables 𝓤 𝓛.H 𝓜 𝓡 𝓡.env).C callee) (closing 𝓛 NumberOf number_of_clauses)
        → Meets 𝓛 Number.signature ((tables 𝓤 𝓛.H 𝓜 𝓡 𝓡.env).C key) (closing 𝓛 Number number_clauses)
    number_kept one typed 𝓜 𝓡 key callee ρ ϱ given lent closed met =
        let W = walk_of 𝓛 Number number_stayed number_clauses in let 𝓣 = tables 𝓤 𝓛.H 𝓜 𝓡 𝓡.env in
        proved 𝓛 Number number_stayed number_clauses 𝓜 𝓡 (Goes-dropped 𝓛 1 (plain (λ _. RawPtr)) yes (λ κs x w. refl), (Goes-dropped 𝓛 1 (plain (λ _. UInt w)) yes (λ κs x w'. refl), (Goes-gave_ref 𝓛 1 0 tt (plain (λ _. A)), tt)))
        key (keeping 1 3 (local (ty_int w) value_local ∷ local ρ value_local ∷ []) (lone R.mir) ϱ (lone A.mir) callee (copy (place 2 []) ∷ [])) closed
        (λ κs. (rawptr_vals, (uint_vals w, (mut_vals, tt)))) (λ κs. (rawptr_Tells, (uint_Tells w, (mut_Tells (named 0) κs.0 A, tt)))) (λ κs qs bounds a h are.
        let rest : List Val × (List Val × Unit {0}) = (uint_vals w a.1.0, (mut_vals a.1.1.0, tt)) in
        let y : Ptr → W.Ghost = λ p. ((κs, qs, bounds, (p, a.1), (rawptr_vals p, rest)), h) in
        keeps_1 𝓛 R one typed 𝓣.C (framed 𝓤 𝓛.H 𝓜 𝓣) 𝓣.Λ callee
        (alive 𝓛 Number.signature κs qs) (owns (UInt w ∷ MutRef (named 0) κs.0 A ∷ []) a.1 rest) a.0 h (λ p. W.post (y p))
        (λ (ws : Lasts NumberOf κs (h, a.1)). left (R.exit yes) h ws.0) (λ ws. lasts_of κs (behind NumberOf.signature.params) NumberOf.kept.1 a.1 ws.1) (λ r ws. Rel a.1.0 h r a.1.1.0.now ws.1.1.0) (λ p ws. (leaves 𝓛 Number number_stayed number_clauses (y p) vunit tt (tt, (tt, (ws.1.1.0, tt))) (tt, (tt, (tt, tt)))))
        1 ρ ϱ (lone A.mir) a.1.1.0.ref_ptr.0 a.1.1.0.ref_ptr.1 (given _ _) (lent _ _) (ty_int w) (head (uint_vals w a.1.0)) (eqb_refl (bytes w), record { fits = are.1.0.1 })
        (λ v. met ((κs, qs, tt, (h, a.1), (v ∷ [], rest)), tt)))

-- the same of one that takes bytes
module _ (R A : RattleType) (Rel : List ℕ → R.Denot → R.Denot → A.Denot → A.Denot → Type 0) where
  abbrev pub Bytes : Ended
  Bytes = record {
    signature = record { lifetimes = 2; outlives = []; params = plain (λ κs. RawPtr) ∷ shr_slice_of (0 ∷ []) tt (plain (λ κs. u8)) ∷ mut_ref_to (1 ∷ []) tt (plain (λ κs. A)) ∷ []; result = plain (λ κs. unit) };
    kept = (yes, (yes, (yes, tt)));
  }

  abbrev pub BytesOf : Ended
  BytesOf = record {
    signature = record { lifetimes = 2; outlives = []; params = plain (λ κs. R) ∷ shr_slice_of (0 ∷ []) tt (plain (λ κs. u8)) ∷ mut_ref_to (1 ∷ []) tt (plain (λ κs. A)) ∷ []; result = plain (λ κs. R) };
    kept = (yes, (yes, (yes, tt)));
  }

  module _ {M : Type 1} {𝓤 : Ura M} (𝓛 : Logic 𝓤) where
    abbrev pub bytes_clauses : Clauses 𝓤 Bytes
    bytes_clauses κs a = record {
      ghost = R.Denot;
      requires = λ h. sem 𝓛 (lies_at R full_share a.0 h);
      ensures = λ h res out. ex 𝓤 (λ (r : R.Denot). sep 𝓤 (sem 𝓛 (lies_at R full_share a.0 r)) (fact 𝓤 (Rel a.1.0.now h r a.1.1.0.now out.1.1.0.now)));
    }

    abbrev pub bytes_of_clauses : Clauses 𝓤 BytesOf
    bytes_of_clauses κs a = record { ghost = Unit {0}; requires = λ _. emp 𝓤; ensures = λ _ r out. fact 𝓤 (Rel a.1.0.now a.0 r a.1.1.0.now out.1.1.0.now) }

    abbrev bytes_stayed : Stays Bytes.signature.params Bytes.kept
    bytes_stayed = (stay_dropped _ yes, (stay_dropped _ yes, (gave_ref (1 ∷ []) tt (plain (λ _. A)), tt)))

    pub bytes_kept : One R → ((h : R.Denot) (v : Val) → Is R h (v ∷ []) → Has (lone R.mir) v) → (𝓜 : Model 𝓤 𝓛.H) (𝓡 : Running 𝓤 𝓛.H 𝓜) (key callee : Callee)
        (ρ ϱ : Ty) → ((b o : ℕ) → Has ρ (vptr b o)) → ((b o : ℕ) → Has ϱ (vptr b o))
        → Closed 𝓤 𝓛.H (tables 𝓤 𝓛.H 𝓜 𝓡 𝓡.env).C (tables 𝓤 𝓛.H 𝓜 𝓡 𝓡.env).Λ key
        (keeping 2 3 (local (lone (ShrSlice (named 0) [] u8).mir) value_local ∷ local ρ value_local ∷ []) (lone R.mir) ϱ (lone A.mir) callee (copy (place 2 []) ∷ []))
        → Meets 𝓛 BytesOf.signature ((tables 𝓤 𝓛.H 𝓜 𝓡 𝓡.env).C callee) (closing 𝓛 BytesOf bytes_of_clauses)
        → Meets 𝓛 Bytes.signature ((tables 𝓤 𝓛.H 𝓜 𝓡 𝓡.env).C key) (closing 𝓛 Bytes bytes_clauses)
    bytes_kept one typed 𝓜 𝓡 key callee ρ ϱ given lent closed met =
        let W = walk_of 𝓛 Bytes bytes_stayed bytes_clauses in let 𝓣 = tables 𝓤 𝓛.H 𝓜 𝓡 𝓡.env in
        proved 𝓛 Bytes bytes_stayed bytes_clauses 𝓜 𝓡 (Goes-dropped 𝓛 2 (plain (λ _. RawPtr)) yes (λ κs x w. refl), (Goes-dropped 𝓛 2 (shr_slice_of (0 ∷ []) tt (plain (λ _. u8))) yes (λ κs x w. refl), (Goes-gave_ref 𝓛 2 1 tt (plain (λ _. A)), tt)))
        key (keeping 2 3 (local (lone (ShrSlice (named 0) [] u8).mir) value_local ∷ local ρ value_local ∷ []) (lone R.mir) ϱ (lone A.mir) callee (copy (place 2 []) ∷ [])) closed
        (λ κs. (rawptr_vals, (shr_slice_vals, (mut_vals, tt)))) (λ κs. (rawptr_Tells, (shr_slice_Tells (named 0) κs.0 u8, (mut_Tells (named 1) κs.1.0 A, tt)))) (λ κs qs bounds a h are.
        let rest : List Val × (List Val × Unit {0}) = (shr_slice_vals a.1.0, (mut_vals a.1.1.0, tt)) in
        let y : Ptr → W.Ghost = λ p. ((κs, qs, bounds, (p, a.1), (rawptr_vals p, rest)), h) in
        keeps_1 𝓛 R one typed 𝓣.C (framed 𝓤 𝓛.H 𝓜 𝓣) 𝓣.Λ callee
        (alive 𝓛 Bytes.signature κs qs) (owns (ShrSlice (named 0) κs.0 u8 ∷ MutRef (named 1) κs.1.0 A ∷ []) a.1 rest) a.0 h (λ p. W.post (y p))
        (λ (ws : Lasts BytesOf κs (h, a.1)). left (R.exit yes) h ws.0) (λ ws. lasts_of κs (behind BytesOf.signature.params) BytesOf.kept.1 a.1 ws.1) (λ r ws. Rel a.1.0.now h r a.1.1.0.now ws.1.1.0) (λ p ws. (leaves 𝓛 Bytes bytes_stayed bytes_clauses (y p) vunit tt (tt, (tt, (ws.1.1.0, tt))) (tt, (tt, (tt, tt)))))
        2 ρ ϱ (lone A.mir) a.1.1.0.ref_ptr.0 a.1.1.0.ref_ptr.1 (given _ _) (lent _ _) (lone (ShrSlice (named 0) [] u8).mir) (head (shr_slice_vals a.1.0)) (tt, (tt, (record { fits = are.1.0.0.1.0 }, tt)))
        (λ v. met ((κs, qs, tt, (h, a.1), (v ∷ [], rest)), tt)))
