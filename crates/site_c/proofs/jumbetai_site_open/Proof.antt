-- A new value is written into the room.
use Rattle.site_c.proofs.Steps.{List, [], ◌∷◌, refl, proved, leaves, full_share, id⊢, emp, ex, ex_i, sep, ftrue, fsep, Val, vunit, fact, fact_i, tables, WpFn, sem, ‵, raw, ◌⊛◌, some, later, prop, ◌$◌, ◌∵◌, !, qed, by, move, keep, drop, use0, use1, split, join, fsplit, fjoin, feq_i, pick, await, regoal, enter, of_opd, unit_lit, init, stop, no_more, and_then, assigns, returns, alloc_all, pass_all, free_all, look_at, get, through, sets, lands_as, yes, Is, shows, part_at, Ptr, RawPtr, block_ptr, lies_at, room_at, in_a_block, rawptr_vals, rawptr_Tells, plain, nothing, heard, peeks, calls_at, lasts, Lasts, alive, triple_of, framed, Stays, walk_of, stay_dropped, Goes-dropped, part_in}
use Rattle.library_calls.specs.Rooms.{IsEmpty}
use Rattle.std.proofs.alloc.Calls.{Goes-blank}
use Rattle.std.specs.contracts.alloc.Global as heap
use Rattle.std.proofs.alloc.Global.TheLaws as heap_laws
use Rattle.library_calls.specs.contracts.held.Held.{the_row as R}
use Rattle.library_calls.proofs.held.Held.TheLaws.{the_row_laws as LR}
use Rattle.site_c.specs.contracts.jumbetai_site_open as f
use Rattle.site_c.proofs.jumbetai_site_open.Statement.{statement}
use Rattle.site_c.proofs.jumbetai_site_open.Code as code
use Rattle.site_c.specs.contracts.calls.site_open as g
use Rattle.site_c.proofs.calls.site_open.Met.{met}

abbrev stayed : Stays f.ended.signature.params f.ended.kept
stayed = (stay_dropped _ yes, (stay_dropped _ yes, tt))

pub jumbetai_site_open_spec : {M : Type 1} → statement M
jumbetai_site_open_spec 𝓤 𝓛 𝓜 𝓡 wired =
    let c = f.clauses 𝓛 𝓜.mem 𝓡.returns in let W = walk_of 𝓛 f.ended stayed c in let 𝓣 = tables 𝓤 𝓛.H 𝓜 𝓡 𝓡.env in
    let G = triple_of 𝓛 g.signature (g.spec 𝓛 𝓜.mem 𝓡.returns) in
    proved 𝓛 f.ended stayed c 𝓜 𝓡 (Goes-blank 𝓛 0 (plain (λ _. heap.the_row)) yes (λ κs x w. tt), (Goes-dropped 𝓛 0 (plain (λ _. RawPtr)) yes (λ κs x w. refl), tt))
    f.Key.name code.function (code.unfolded 𝓤 𝓛.H 𝓜 𝓡 wired)
    (λ κs. ((λ x. heap_laws.lowered x ∷ []), (rawptr_vals, tt))) (λ κs. (heap_laws.lowers.val_is, (rawptr_Tells, tt))) (λ κs qs bounds a none are.
    let w = heap_laws.lowered a.0 in
    let tw = ((heap_laws.the_row_laws.lawful 𝓛).typed a.0 (w ∷ []) are.0).0 in
    let y : Ptr → W.Ghost = λ p. ((κs, qs, bounds, (a.0, (p, tt)), (w ∷ [], (rawptr_vals p, tt))), none) in
    let z : G.Ghost = ((κs, qs, tt, (a.0, tt), (w ∷ [], tt)), tt) in
    qed 𝓛 ((raw (alive 𝓛 f.signature κs qs) ⊛ ‵ (fsep (heap.the_row.own_val a.0 (w ∷ [])) (fsep (RawPtr.own_val a.1.0 (rawptr_vals a.1.0)) ftrue))) ∷ ‵ (room_at R a.1.0) ∷ []) ∵ move ! (1 ∷ []) $
    in_a_block ! a.1.0 (λ p. room_at R p) (id⊢ 𝓤 _) (λ b o e.
    regoal ! (λ p. prop (WpFn 𝓤 𝓛.H 𝓣.C 𝓣.Λ code.function (w ∷ rawptr_vals p) (W.post (y p)))) e refl $
    -- [the room; the tokens and the parameters; the locals]
    enter ! _ _ _ _ _ $ alloc_all ! (λ l. pass_all ! refl (tw, ((tt, tt), tt)) $
    sets ! (of_opd ! (get ! refl)) refl (tt, tt) $
    move ! (1 ∷ []) $ split ! $ move ! (1 ∷ []) $ fsplit ! $ move ! (1 ∷ []) $ drop ! $
    -- [the allocator; the tokens; the room]
    nothing ! $ move ! (1 ∷ 0 ∷ []) $ fjoin ! $ move ! (1 ∷ 0 ∷ []) $ join ! $ nothing ! $ move ! (1 ∷ 0 ∷ []) $ join ! $ use1 𝓛 (raw (G.pre z)) (id⊢ 𝓤 _) $
    calls_at ! (framed 𝓤 𝓛.H 𝓜 𝓣) G (met 𝓤 𝓛 𝓜 𝓡 (code.calls-site_c::calls::site_open 𝓡.env wired)) z (and_then ! (get ! refl) (no_more !)) (λ u.
    use1 𝓛 (later (some (λ (r : R.Denot). (raw (alive 𝓛 f.signature κs qs) ⊛ ‵ (R.own_val r (u ∷ []))) ⊛
    some (λ (ws : Lasts g.ended κs (a.0, tt)). ‵ (lasts g.ended κs (a.0, tt) ws) ⊛ raw (fact 𝓤 (IsEmpty r)))))) (id⊢ 𝓤 _) $
    await ! tt $ pick ! (λ r. split ! $ move ! (1 ∷ []) $ pick ! (λ ws. split ! $ drop ! $ heard ! (IsEmpty r) (λ told. split ! $ move ! (1 ∷ []) $
    peeks ! R (Is R) (shows 𝓛 R) r (u ∷ []) (λ is.
    let t = ((LR.lawful 𝓛).typed r (u ∷ []) is).0 in
    lands_as ! refl refl t $
    -- [the value; the tokens; the room]
    assigns ! (of_opd ! (get ! refl)) (through ! refl (stop !)) (init ! 2 refl t) $
    sets ! (of_opd ! (unit_lit !)) refl (tt, tt) $
    returns ! (look_at ! 0 refl) $ free_all ! refl $
    move ! (2 ∷ 0 ∷ []) $ join ! $ use1 𝓛 (‵ (part_at R full_share r b o)) (part_in 𝓛 R refl full_share r b o u) $
    use0 𝓛 (raw (fact 𝓤 (IsEmpty r))) (fact_i 𝓤 (IsEmpty r) (emp 𝓤) told) $ move ! (1 ∷ 0 ∷ []) $ join ! $
    use1 𝓛 (raw (ex 𝓤 (λ (x : R.Denot). sep 𝓤 (sem 𝓛 (lies_at R full_share (block_ptr b o) x)) (fact 𝓤 (IsEmpty x))))) (ex_i 𝓤 (λ (x : R.Denot). sep 𝓤 (sem 𝓛 (lies_at R full_share (block_ptr b o) x)) (fact 𝓤 (IsEmpty x))) r) $
    -- [what lies there; the tokens]
    feq_i ! (List Val) (vunit ∷ []) (vunit ∷ []) refl $ nothing ! $ nothing ! $ fjoin ! $ nothing ! $ fjoin ! $
    keep ! (3 ∷ 0 ∷ 1 ∷ 2 ∷ []) $ by ! (leaves 𝓛 f.ended stayed c (y (block_ptr b o)) vunit tt (tt, (tt, tt)) (tt, (tt, tt)))))))))))
