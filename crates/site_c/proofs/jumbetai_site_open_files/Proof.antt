-- The files are read, so that their room is left, and handed on with the reply; what comes back is written into the room.
use Rattle.site_c.proofs.Steps.{List, [], ◌∷◌, ◌++◌, refl, proved, leaves, full_share, id⊢, emp, ex, ex_i, sep, fsep, fat, named, Val, vunit, fact, fact_i, tables, WpFn, sem, ‵, raw, ◌⊛◌, some, later, prop, ◌$◌, ◌∵◌, !, qed, by, move, keep, drop, use0, use1, split, join, fsplit, fjoin, feq_i, pick, await, regoal, enter, of_opd, unit_lit, addr, load, look, init, forget, stop, no_more, and_then, assigns, returns, alloc_all, pass_all, free_all, look_at, get, through, sets, lands_as, yes, Is, shows, part_at, lone, owns, MutRef, Ptr, RawPtr, block_ptr, lies_at, room_at, in_a_block, rawptr_vals, rawptr_Tells, mut_vals, mut_Tells, plain, nothing, heard, peeks, calls_at, lasts, Lasts, alive, triple_of, framed, Stays, walk_of, stay_dropped, gave_ref, Goes-dropped, Goes-gave_ref, part_out, part_in}
use Rattle.library_calls.specs.Rooms.{Opened}
use Rattle.std.proofs.alloc.Calls.{Goes-blank}
use Rattle.std.specs.contracts.alloc.Global as heap
use Rattle.std.proofs.alloc.Global.TheLaws as heap_laws
use Rattle.library_calls.specs.contracts.held.Held.{the_row as R}
use Rattle.library_calls.specs.contracts.calls.Reply.{the_row as A}
use Rattle.library_calls.proofs.held.Held.TheLaws.{the_row_laws as LR}
use Rattle.durable_site.specs.contracts.file.GivenFiles.{the_row as F}
use Rattle.durable_site.proofs.file.GivenFiles.TheLaws.{the_row_laws as LF}
use Rattle.site_c.specs.contracts.jumbetai_site_open_files as f
use Rattle.site_c.proofs.jumbetai_site_open_files.Statement.{statement}
use Rattle.site_c.proofs.jumbetai_site_open_files.Code as code
use Rattle.site_c.specs.contracts.calls.site_open_files as g
use Rattle.site_c.proofs.calls.site_open_files.Met.{met}

abbrev stayed : Stays f.ended.signature.params f.ended.kept
stayed = (stay_dropped _ yes, (stay_dropped _ yes, (stay_dropped _ yes, (gave_ref (0 ∷ []) tt (plain (λ _. A)), tt))))

pub jumbetai_site_open_files_spec : {M : Type 1} → statement M
jumbetai_site_open_files_spec 𝓤 𝓛 𝓜 𝓡 wired =
    let c = f.clauses 𝓛 𝓜.mem 𝓡.returns in let W = walk_of 𝓛 f.ended stayed c in let 𝓣 = tables 𝓤 𝓛.H 𝓜 𝓡 𝓡.env in
    let G = triple_of 𝓛 g.signature (g.spec 𝓛 𝓜.mem 𝓡.returns) in
    proved 𝓛 f.ended stayed c 𝓜 𝓡 (Goes-blank 𝓛 1 (plain (λ _. heap.the_row)) yes (λ κs x w. tt), (Goes-dropped 𝓛 1 (plain (λ _. RawPtr)) yes (λ κs x w. refl), (Goes-dropped 𝓛 1 (plain (λ _. RawPtr)) yes (λ κs x w. refl), (Goes-gave_ref 𝓛 1 0 tt (plain (λ _. A)), tt))))
    f.Key.name code.function (code.unfolded 𝓤 𝓛.H 𝓜 𝓡 wired)
    (λ κs. ((λ x. heap_laws.lowered x ∷ []), (rawptr_vals, (rawptr_vals, (mut_vals, tt))))) (λ κs. (heap_laws.lowers.val_is, (rawptr_Tells, (rawptr_Tells, (mut_Tells (named 0) κs.0 A, tt))))) (λ κs qs bounds a h are.
    let w = heap_laws.lowered a.0 in
    let tw = ((heap_laws.the_row_laws.lawful 𝓛).typed a.0 (w ∷ []) are.0).0 in
    let last : List Val × Unit {0} = (mut_vals a.1.1.1.0, tt) in
    let y : Ptr → Ptr → W.Ghost = λ p q. ((κs, qs, bounds, (a.0, (p, (q, a.1.1.1))), (w ∷ [], (rawptr_vals p, (rawptr_vals q, last)))), h) in
    let others = owns (MutRef (named 0) κs.0 A ∷ []) a.1.1.1 last in
    qed 𝓛 ((raw (alive 𝓛 f.signature κs qs) ⊛ ‵ (fsep (heap.the_row.own_val a.0 (w ∷ [])) (fsep (RawPtr.own_val a.1.0 (rawptr_vals a.1.0)) (fsep (RawPtr.own_val a.1.1.0 (rawptr_vals a.1.1.0)) others)))) ∷ ‵ (fsep (room_at R a.1.0) (lies_at F full_share a.1.1.0 h)) ∷ []) ∵ move ! (1 ∷ []) $ fsplit ! $
    in_a_block ! a.1.0 (λ p. room_at R p) (id⊢ 𝓤 _) (λ b o e.
    regoal ! (λ p. prop (WpFn 𝓤 𝓛.H 𝓣.C 𝓣.Λ code.function (w ∷ (rawptr_vals p ++ (rawptr_vals a.1.1.0 ++ mut_vals a.1.1.1.0))) (W.post (y p a.1.1.0)))) e refl $
    move ! (1 ∷ []) $
    in_a_block ! a.1.1.0 (λ p. lies_at F full_share p h) (id⊢ 𝓤 _) (λ b' o' e'.
    regoal ! (λ p. prop (WpFn 𝓤 𝓛.H 𝓣.C 𝓣.Λ code.function (w ∷ (rawptr_vals (block_ptr b o) ++ (rawptr_vals p ++ mut_vals a.1.1.1.0))) (W.post (y (block_ptr b o) p)))) e' refl $
    use1 𝓛 (some (λ (v : Val). ‵ (fat full_share (lone F.mir) b' o' v) ⊛ ‵ (F.own_val h (v ∷ [])))) (part_out 𝓛 F refl full_share h b' o') $ pick ! (λ v. split ! $ move ! (1 ∷ []) $
    peeks ! F (Is F) (shows 𝓛 F) h (v ∷ []) (λ is.
    let t = ((LF.lawful 𝓛).typed h (v ∷ []) is).0 in
    let z : G.Ghost = ((κs, qs, tt, (a.0, (h, a.1.1.1)), (w ∷ [], (v ∷ [], last))), tt) in
    -- [the files; their cell; the room; the tokens and the parameters; the locals]
    enter ! _ _ _ _ _ $ alloc_all ! (λ l. pass_all ! refl (tw, ((tt, tt), ((tt, tt), ((tt, tt), tt)))) $
    sets ! (of_opd ! (get ! refl)) refl (tt, tt) $
    sets ! (of_opd ! (load ! (through ! refl (stop !)) (look ! 1 refl))) refl t $
    sets ! (of_opd ! (get ! refl)) refl (tt, tt) $
    sets ! (of_opd ! (get ! refl)) refl t $
    sets ! (addr ! (through ! refl (stop !))) refl (tt, tt) $
    move ! (3 ∷ []) $ split ! $ move ! (1 ∷ []) $ fsplit ! $ move ! (1 ∷ []) $ fsplit ! $ drop ! $ fsplit ! $ drop ! $
    -- [the reply; the allocator; the tokens; the files; their cell; the room]
    move ! (3 ∷ 0 ∷ []) $ fjoin ! $ move ! (1 ∷ 0 ∷ []) $ fjoin ! $ move ! (1 ∷ 0 ∷ []) $ join ! $ nothing ! $ move ! (1 ∷ 0 ∷ []) $ join ! $ use1 𝓛 (raw (G.pre z)) (id⊢ 𝓤 _) $
    calls_at ! (framed 𝓤 𝓛.H 𝓜 𝓣) G (met 𝓤 𝓛 𝓜 𝓡 (code.calls-site_c::calls::site_open_files 𝓡.env wired)) z (and_then ! (get ! refl) (and_then ! (get ! refl) (and_then ! (get ! refl) (no_more !)))) (λ u.
    use1 𝓛 (later (some (λ (r : R.Denot). (raw (alive 𝓛 f.signature κs qs) ⊛ ‵ (R.own_val r (u ∷ []))) ⊛
    some (λ (ws : Lasts g.ended κs (a.0, (h, a.1.1.1))). ‵ (lasts g.ended κs (a.0, (h, a.1.1.1)) ws) ⊛ raw (fact 𝓤 (Opened r ws.1.1.0)))))) (id⊢ 𝓤 _) $
    await ! tt $ pick ! (λ r. split ! $ move ! (1 ∷ []) $ pick ! (λ ws. split ! $ move ! (1 ∷ []) $ heard ! (Opened r ws.1.1.0) (λ told. move ! (1 ∷ []) $ split ! $ move ! (1 ∷ []) $
    peeks ! R (Is R) (shows 𝓛 R) r (u ∷ []) (λ is'.
    let t' = ((LR.lawful 𝓛).typed r (u ∷ []) is').0 in
    lands_as ! refl refl t' $
    -- [the value; the tokens; the last values; the files' cell; the room]
    assigns ! (of_opd ! (get ! refl)) (through ! refl (stop !)) (init ! 4 refl t') $
    sets ! (of_opd ! (unit_lit !)) refl (tt, tt) $
    returns ! (look_at ! 0 refl) $ free_all ! refl $
    move ! (3 ∷ []) $ forget ! 0 refl $ use1 𝓛 (‵ (room_at F (block_ptr b' o'))) (id⊢ 𝓤 _) $
    -- [the files' room; the value; the tokens; the last values; the cell]
    move ! (4 ∷ 1 ∷ []) $ join ! $ use1 𝓛 (‵ (part_at R full_share r b o)) (part_in 𝓛 R refl full_share r b o u) $ fjoin ! $
    use0 𝓛 (raw (fact 𝓤 (Opened r ws.1.1.0))) (fact_i 𝓤 (Opened r ws.1.1.0) (emp 𝓤) told) $ move ! (1 ∷ 0 ∷ []) $ join ! $
    use1 𝓛 (raw (ex 𝓤 (λ (x : R.Denot). sep 𝓤 (sem 𝓛 (fsep (lies_at R full_share (block_ptr b o) x) (room_at F (block_ptr b' o')))) (fact 𝓤 (Opened x ws.1.1.0))))) (ex_i 𝓤 (λ (x : R.Denot). sep 𝓤 (sem 𝓛 (fsep (lies_at R full_share (block_ptr b o) x) (room_at F (block_ptr b' o')))) (fact 𝓤 (Opened x ws.1.1.0))) r) $
    -- [what lies there; the tokens; the last values]
    feq_i ! (List Val) (vunit ∷ []) (vunit ∷ []) refl $ move ! (3 ∷ []) $ fsplit ! $ drop ! $ fsplit ! $ drop ! $ nothing ! $ fjoin ! $ nothing ! $ fjoin ! $ nothing ! $ fjoin ! $
    keep ! (3 ∷ 0 ∷ 1 ∷ 2 ∷ []) $ by ! (leaves 𝓛 f.ended stayed c (y (block_ptr b o) (block_ptr b' o')) vunit tt (tt, (tt, (tt, (ws.1.1.0, tt)))) (tt, (tt, (tt, (tt, tt))))))))))))))))
