-- What lies in the first room is lent to the callee, which leaves it there and gives a new value; that is written into the other room.
use Rattle.site_c.proofs.Steps.{ℕ, List, [], ◌∷◌, ◌++◌, refl, proved, leaves, full_share, id⊢, emp, ex, ex_i, sep, ftrue, fsep, named, Val, vunit, fact, fact_i, tables, WpFn, sem, ‵, raw, ◌⊛◌, some, later, prop, ◌$◌, ◌∵◌, !, qed, by, move, keep, drop, use0, use1, split, join, fsplit, fjoin, feq_i, pick, await, regoal, enter, of_opd, unit_lit, addr, init, forget, stop, no_more, and_then, assigns, returns, alloc_all, pass_all, free_all, look_at, get, through, sets, lands_as, yes, Is, shows, part_at, MutRef, Ptr, RawPtr, block_ptr, lies_at, room_at, in_a_block, rawptr_vals, rawptr_Tells, plain, nothing, heard, peeks, calls_at, lasts, Lasts, alive, triple_of, framed, Stays, walk_of, stay_dropped, Goes-dropped, part_in}
use base.Fml.{flft, flent}
use types.Kit.{use2, use3}
use types.Tokens.{lft_new, lft_end}
use types.SemTy.{Body}
use mir.Val.{vptr}
use denote.Lend.{lends_ref, ref_back}
use denote.Memory.{mem}
use Rattle.library_calls.specs.Rooms.{RoomCopied}
use Rattle.library_calls.specs.contracts.held.Held.{the_row as R}
use Rattle.library_calls.proofs.held.Held.TheLaws.{the_row_laws as LR}
use Rattle.site_c.specs.contracts.jumbetai_site_copy as f
use Rattle.site_c.proofs.jumbetai_site_copy.Statement.{statement}
use Rattle.site_c.proofs.jumbetai_site_copy.Code as code
use Rattle.site_c.specs.contracts.calls.site_copy as g
use Rattle.site_c.proofs.calls.site_copy.Met.{met}

abbrev stayed : Stays f.ended.signature.params f.ended.kept
stayed = (stay_dropped _ yes, (stay_dropped _ yes, tt))

pub jumbetai_site_copy_spec : {M : Type 1} → statement M
jumbetai_site_copy_spec 𝓤 𝓛 𝓜 𝓡 wired =
    let c = f.clauses 𝓛 𝓜.mem 𝓡.returns in let W = walk_of 𝓛 f.ended stayed c in let 𝓣 = tables 𝓤 𝓛.H 𝓜 𝓡 𝓡.env in
    let G = triple_of 𝓛 g.signature (g.spec 𝓛 𝓜.mem 𝓡.returns) in
    proved 𝓛 f.ended stayed c 𝓜 𝓡 (Goes-dropped 𝓛 0 (plain (λ _. RawPtr)) yes (λ κs x w. refl), (Goes-dropped 𝓛 0 (plain (λ _. RawPtr)) yes (λ κs x w. refl), tt))
    f.Key.name code.function (code.unfolded 𝓤 𝓛.H 𝓜 𝓡 wired)
    (λ κs. (rawptr_vals, (rawptr_vals, tt))) (λ κs. (rawptr_Tells, (rawptr_Tells, tt))) (λ κs qs bounds a h are.
    let y : Ptr → Ptr → W.Ghost = λ p q. ((κs, qs, bounds, (p, (q, tt)), (rawptr_vals p, (rawptr_vals q, tt))), h) in
    qed 𝓛 ((raw (alive 𝓛 f.signature κs qs) ⊛ ‵ (fsep (RawPtr.own_val a.0 (rawptr_vals a.0)) (fsep (RawPtr.own_val a.1.0 (rawptr_vals a.1.0)) ftrue))) ∷ ‵ (fsep (lies_at R full_share a.0 h) (room_at R a.1.0)) ∷ []) ∵ move ! (1 ∷ []) $ fsplit ! $
    in_a_block ! a.0 (λ p. lies_at R full_share p h) (id⊢ 𝓤 _) (λ b o e.
    regoal ! (λ p. prop (WpFn 𝓤 𝓛.H 𝓣.C 𝓣.Λ code.function (rawptr_vals p ++ rawptr_vals a.1.0) (W.post (y p a.1.0)))) e refl $
    move ! (1 ∷ []) $
    in_a_block ! a.1.0 (λ p. room_at R p) (id⊢ 𝓤 _) (λ b' o' e'.
    regoal ! (λ p. prop (WpFn 𝓤 𝓛.H 𝓣.C 𝓣.Λ code.function (rawptr_vals (block_ptr b o) ++ rawptr_vals p) (W.post (y (block_ptr b o) p)))) e' refl $
    let Ref = λ (κ : List ℕ) (γ : ℕ). (MutRef (named 0) κ R).own_val (record { ref_ptr = (b, o); ghost_name = γ; now = h }) (vptr b o ∷ []) in
    -- [the room; what lies there; the tokens and the parameters; the locals]
    enter ! _ _ _ _ _ $ alloc_all ! (λ l. pass_all ! refl ((tt, tt), ((tt, tt), tt)) $
    move ! (2 ∷ []) $ split ! $ move ! (1 ∷ []) $ drop ! $
    -- [the tokens; the room; what lies there]
    sets ! (of_opd ! (get ! refl)) refl (tt, tt) $
    sets ! (addr ! (through ! refl (stop !))) refl (tt, tt) $
    lft_new ! tt (λ α.
    -- [the loan's token; the tokens; the room; what lies there]
    move ! (3 ∷ []) $ use1 𝓛 (later (some (λ (γ : ℕ). ‵ (Ref (α ∷ []) γ) ⊛ ‵ (flent (α ∷ []) (Body (mem R) b o γ))))) (lends_ref 𝓛 R (named 0) (α ∷ []) h b o) $ await ! tt $ pick ! (λ γ. split ! $
    -- [the loan; what the lender keeps; its token; the tokens; the room]
    let z : G.Ghost = (((α ∷ [], tt), (full_share, tt), tt, (record { ref_ptr = (b, o); ghost_name = γ; now = h }, tt), (vptr b o ∷ [], tt)), tt) in
    nothing ! $ move ! (1 ∷ 0 ∷ []) $ join ! $ nothing ! $ move ! (3 ∷ 0 ∷ []) $ join ! $ join ! $
    nothing ! $ move ! (1 ∷ 0 ∷ []) $ use2 𝓛 (raw (G.pre z)) (id⊢ 𝓤 _) $
    calls_at ! (framed 𝓤 𝓛.H 𝓜 𝓣) G (met 𝓤 𝓛 𝓜 𝓡 (code.calls-site_c::calls::site_copy 𝓡.env wired)) z (and_then ! (get ! refl) (no_more !)) (λ u.
    use1 𝓛 (later (some (λ (r : R.Denot). ((‵ (flft (α ∷ []) full_share) ⊛ ‵ ftrue) ⊛ ‵ (R.own_val r (u ∷ []))) ⊛
    some (λ (ws : Lasts g.ended z.0.0 z.0.3). ‵ (lasts g.ended z.0.0 z.0.3 ws) ⊛ raw (fact 𝓤 (RoomCopied h ws.0 r)))))) (id⊢ 𝓤 _) $
    await ! tt $ pick ! (λ r. split ! $ split ! $ split ! $ lft_end ! tt $
    -- [the loan is over; nothing; the value; the last value; what the lender keeps; the tokens; the room]
    move ! (3 ∷ []) $ pick ! (λ ws. split ! $ move ! (1 ∷ []) $ heard ! (RoomCopied h ws.0 r) (λ told. fsplit ! $ fsplit ! $
    -- [the last value; the loan's borrow; nothing; the loan is over; nothing; the value; what the lender keeps; the tokens; the room]
    move ! (3 ∷ 6 ∷ 0 ∷ []) $ use3 𝓛 (later (‵ (lies_at R full_share (block_ptr b o) ws.0))) (ref_back 𝓛 R (α ∷ []) γ ws.0 b o) $ await ! tt $
    -- [what lies there; the borrow; nothing; nothing; the value; the tokens; the room]
    move ! (4 ∷ []) $
    peeks ! R (Is R) (shows 𝓛 R) r (u ∷ []) (λ is.
    let t = ((LR.lawful 𝓛).typed r (u ∷ []) is).0 in
    lands_as ! refl refl t $
    sets ! (of_opd ! (get ! refl)) refl (tt, tt) $
    -- [the value; what lies there; the borrow; nothing; nothing; the tokens; the room]
    sets ! (of_opd ! (get ! refl)) refl t $
    assigns ! (of_opd ! (get ! refl)) (through ! refl (stop !)) (init ! 6 refl t) $
    sets ! (of_opd ! (unit_lit !)) refl (tt, tt) $
    returns ! (look_at ! 0 refl) $ free_all ! refl $
    move ! (6 ∷ 0 ∷ []) $ join ! $ use1 𝓛 (‵ (part_at R full_share r b' o')) (part_in 𝓛 R refl full_share r b' o' u) $
    move ! (1 ∷ 0 ∷ []) $ fjoin ! $
    use0 𝓛 (raw (fact 𝓤 (RoomCopied h ws.0 r))) (fact_i 𝓤 (RoomCopied h ws.0 r) (emp 𝓤) told) $ move ! (1 ∷ 0 ∷ []) $ join ! $
    use1 𝓛 (raw (ex 𝓤 (λ (x : R.Denot). sep 𝓤 (sem 𝓛 (fsep (lies_at R full_share (block_ptr b o) ws.0) (lies_at R full_share (block_ptr b' o') x))) (fact 𝓤 (RoomCopied h ws.0 x))))) (ex_i 𝓤 (λ (x : R.Denot). sep 𝓤 (sem 𝓛 (fsep (lies_at R full_share (block_ptr b o) ws.0) (lies_at R full_share (block_ptr b' o') x))) (fact 𝓤 (RoomCopied h ws.0 x))) r) $
    use1 𝓛 (raw (ex 𝓤 (λ (k : R.Denot). ex 𝓤 (λ (x : R.Denot). sep 𝓤 (sem 𝓛 (fsep (lies_at R full_share (block_ptr b o) k) (lies_at R full_share (block_ptr b' o') x))) (fact 𝓤 (RoomCopied h k x)))))) (ex_i 𝓤 (λ (k : R.Denot). ex 𝓤 (λ (x : R.Denot). sep 𝓤 (sem 𝓛 (fsep (lies_at R full_share (block_ptr b o) k) (lies_at R full_share (block_ptr b' o') x))) (fact 𝓤 (RoomCopied h k x)))) ws.0) $
    -- [what lies there; the borrow; nothing; nothing; the tokens]
    move ! (0 ∷ 4 ∷ []) $
    feq_i ! (List Val) (vunit ∷ []) (vunit ∷ []) refl $ nothing ! $ nothing ! $ fjoin ! $ nothing ! $ fjoin ! $
    keep ! (3 ∷ 0 ∷ 1 ∷ 2 ∷ []) $ by ! (leaves 𝓛 f.ended stayed c (y (block_ptr b o) (block_ptr b' o')) vunit tt (tt, (tt, tt)) (tt, (tt, tt))))))))))))))
