-- Lines that are gathered, one after the other.
use Rattle.std.proofs.Common.{◌≡◌, ◌≢◌, ◌<◌, ◌≤◌, ◌++◌, ℕ, suc, ◌+◌, List, [], ◌∷◌, length, Option, None, Some, refl, sym, ap, subst, arith, Bool, true, false, cond}
use Rattle.std.specs.Prelude.{is_some}
use Rattle.std.specs.List.{AllByRecursion}
use Rattle.std.specs.Io.KnownBytes.{Consumes}
use Rattle.std.proofs.KnownBytes.{Consumes-nil, Consumes-trans}
use Rattle.std.proofs.lemmas.List.Sums.{sum_by-cons}
use Rattle.attributes.specs.Event.{EventValue}
use Rattle.event_json.specs.Reading.{max_input}
use Rattle.event_json.specs.declared.fault.ReadFault.TheVariants.{InputTooLarge}
use Rattle.line_intake.specs.Judged.{TakesLines}
use Rattle.line_intake.specs.Lines.{TakesLine}
use Rattle.line_intake.proofs.GatherLemmas.{on_three, takes_same}
use Rattle.numbers.specs.Numbered.{AreBare}
use Rattle.number_lines.specs.Judged.{AreJudgedToNumber, AreOwn, IsGatheredToNumber, IsJudgedToNumber, IsOwn, refusals_in}
use Rattle.number_lines.specs.declared.refusal.LineRefusal.{LineRefusal}
use Rattle.number_lines.specs.declared.refusal.LineRefusal.TheVariants.{Aside, Number, Read}
use Rattle.number_lines.specs.declared.refusal.Told.{Told}

-- events that are numbered as they came
pub own_same : (given : List EventValue) → AreOwn None given given
own_same [] = tt
own_same (e ∷ given) = (refl, own_same given)

module _ (aside : Option (List ℕ)) where
  -- ---- lines

  takes_more : (a b c : Option (List ℕ)) (lines : List (List ℕ)) (line : List ℕ) → TakesLines a lines b → TakesLine b c line → TakesLines a (lines ++ line ∷ []) c
  takes_more a b c [] line none it = (c, takes_same a b c line none it, Consumes-nil c)
  takes_more a b c (l ∷ lines) line (mid, first, later) it = (mid, first, takes_more mid b c lines line later it)

  takes_end : (a b c : Option (List ℕ)) (lines : List (List ℕ)) → TakesLines a lines b → Consumes b c [] → TakesLines a lines c
  takes_end a b c [] none end = Consumes-trans a b c [] [] none end
  takes_end a b c (l ∷ lines) (mid, first, later) end = (mid, first, takes_end mid b c lines later end)

  judged_line : (before now : ℕ) (lines : List (List ℕ)) (tells : List Told) (lists : List (List EventValue)) (b : ℕ) (line : List ℕ) (told : Told) (L : List EventValue) → now ≡ before + length lines → told.line ≡ suc now → IsJudgedToNumber aside (b ∷ line) told.fault L
      → AreJudgedToNumber aside before lines tells lists → AreJudgedToNumber aside before (lines ++ (b ∷ line) ∷ []) (tells ++ told ∷ []) (lists ++ L ∷ [])
  judged_line before now [] [] [] b line told L count at judged so_far = ((let e : told.line ≡ suc before = omega (arith, count, at) in e), judged, tt)
  judged_line before now [] (t ∷ tells) lists b line told L count at judged so_far = absurd so_far
  judged_line before now [] [] (M ∷ lists) b line told L count at judged so_far = absurd so_far
  judged_line before now ([] ∷ lines) tells lists b line told L count at judged so_far = judged_line (suc before) now lines tells lists b line told L (omega (arith, count)) at judged so_far
  judged_line before now ((x ∷ xs) ∷ lines) [] lists b line told L count at judged so_far = absurd so_far
  judged_line before now ((x ∷ xs) ∷ lines) (t ∷ tells) [] b line told L count at judged so_far = absurd so_far
  judged_line before now ((x ∷ xs) ∷ lines) (t ∷ tells) (M ∷ lists) b line told L count at judged so_far = (so_far.0, so_far.1, judged_line (suc before) now lines tells lists b line told L (omega (arith, count)) at judged so_far.2)

  judged_empty : (before : ℕ) (lines : List (List ℕ)) (tells : List Told) (lists : List (List EventValue)) → AreJudgedToNumber aside before lines tells lists → AreJudgedToNumber aside before (lines ++ [] ∷ []) tells lists
  judged_empty before [] [] [] so_far = tt
  judged_empty before [] (t ∷ tells) lists so_far = absurd so_far
  judged_empty before [] [] (M ∷ lists) so_far = absurd so_far
  judged_empty before ([] ∷ lines) tells lists so_far = judged_empty (suc before) lines tells lists so_far
  judged_empty before ((x ∷ xs) ∷ lines) [] lists so_far = absurd so_far
  judged_empty before ((x ∷ xs) ∷ lines) (t ∷ tells) [] so_far = absurd so_far
  judged_empty before ((x ∷ xs) ∷ lines) (t ∷ tells) (M ∷ lists) so_far = (so_far.0, so_far.1, judged_empty (suc before) lines tells lists so_far.2)

  length_more : {T : Type 0} (xs : List T) (x : T) → length (xs ++ x ∷ []) ≡ length xs + 1
  length_more [] x = refl
  length_more (y ∷ xs) x = (let more = length_more xs x in omega (arith, more))

  pub gathered_none : (before : ℕ) (a : Option (List ℕ)) → IsGatheredToNumber aside before before a a [] []
  gathered_none before a = record { lines = []; taken = Consumes-nil a; judged = tt; count = omega arith }

  pub gathered_end : (before now : ℕ) (a b c : Option (List ℕ)) (tells : List Told) (lists : List (List EventValue)) → IsGatheredToNumber aside before now a b tells lists → Consumes b c [] → IsGatheredToNumber aside before now a c tells lists
  gathered_end before now a b c tells lists g end = record { lines = g.lines; taken = takes_end a b c g.lines g.taken end; judged = g.judged; count = g.count }

  pub gathered_empty : (before now next : ℕ) (a b c : Option (List ℕ)) (tells : List Told) (lists : List (List EventValue)) (line : List ℕ) → next ≡ now + 1 → line ≡ [] → IsGatheredToNumber aside before now a b tells lists → TakesLine b c line → IsGatheredToNumber aside before next a c tells lists
  gathered_empty before now next a b c tells lists line is none g it = record {
    lines = g.lines ++ [] ∷ [];
    taken = takes_more a b c g.lines [] g.taken (subst (TakesLine b c) none it);
    judged = judged_empty before g.lines tells lists g.judged;
    count = (let more = length_more g.lines [] in let e : next ≡ before + length (g.lines ++ [] ∷ []) = omega (arith, more, g.count, is) in e);
  }

  pub gathered_line : (before now next : ℕ) (a b c : Option (List ℕ)) (tells new_tells : List Told) (lists new_lists : List (List EventValue)) (line : List ℕ) (fault : Option LineRefusal) (L : List EventValue) → next ≡ now + 1 → line ≢ [] → IsJudgedToNumber aside line fault L
      → new_tells ≡ tells ++ (record { line = now + 1; fault = fault }) ∷ [] → new_lists ≡ lists ++ L ∷ [] → IsGatheredToNumber aside before now a b tells lists → TakesLine b c line → IsGatheredToNumber aside before next a c new_tells new_lists
  gathered_line before now next a b c tells new_tells lists new_lists [] fault L is filled judged told given g it = absurd (filled refl)
  gathered_line before now next a b c tells new_tells lists new_lists (x ∷ line) fault L is filled judged told given g it =
      let one : Told = record { line = now + 1; fault = fault } in
      subst (λ ts. IsGatheredToNumber aside before next a c ts new_lists) (sym told)
      (subst (λ ls. IsGatheredToNumber aside before next a c (tells ++ one ∷ []) ls) (sym given) (record {
        lines = g.lines ++ (x ∷ line) ∷ [];
        taken = takes_more a b c g.lines (x ∷ line) g.taken it;
        judged = judged_line before now g.lines tells lists x line one L g.count (omega arith) judged g.judged;
        count = (let more = length_more g.lines (x ∷ line) in let e : next ≡ before + length (g.lines ++ (x ∷ line) ∷ []) = omega (arith, more, g.count, is) in e);
      }))

  -- a line that is too long is no input
  pub long_judged : (line : List ℕ) → max_input < length line → (line ≢ []) × IsJudgedToNumber aside line (Some (Read InputTooLarge)) []
  long_judged line long = ((λ e. let n = ap length e in omega (arith, n, long)), (long, refl))

  -- as many lines are told as there are lists
  pub even_judged : (before : ℕ) (lines : List (List ℕ)) (tells : List Told) (lists : List (List EventValue)) → AreJudgedToNumber aside before lines tells lists → length tells ≡ length lists
  even_judged before [] [] [] so_far = refl
  even_judged before [] (t ∷ tells) lists so_far = absurd so_far
  even_judged before [] [] (M ∷ lists) so_far = absurd so_far
  even_judged before ([] ∷ lines) tells lists so_far = even_judged (suc before) lines tells lists so_far
  even_judged before ((x ∷ xs) ∷ lines) [] lists so_far = absurd so_far
  even_judged before ((x ∷ xs) ∷ lines) (t ∷ tells) [] so_far = absurd so_far
  even_judged before ((x ∷ xs) ∷ lines) (t ∷ tells) (M ∷ lists) so_far = ap suc (even_judged (suc before) lines tells lists so_far.2)

  pub even_gathered : (before now : ℕ) (a b : Option (List ℕ)) (tells : List Told) (lists : List (List EventValue)) → IsGatheredToNumber aside before now a b tells lists → length tells ≡ length lists
  even_gathered before now a b tells lists g = even_judged before g.lines tells lists g.judged

  -- the events of gathered lines can be numbered
  judged_bare : (line : List ℕ) (fault : Option LineRefusal) (L : List EventValue) → IsJudgedToNumber aside line fault L → AreBare L
  judged_bare line None L is = is.3
  judged_bare line (Some (Read why)) L is = subst AreBare (sym is.1) tt
  judged_bare line (Some (Number why)) L (given, events, reads, own, refused, none) = subst AreBare (sym none) tt
  judged_bare line (Some (Aside index)) L (given, reads, few, none) = subst AreBare (sym none) tt

  bare_judged : (before : ℕ) (lines : List (List ℕ)) (tells : List Told) (lists : List (List EventValue)) → AreJudgedToNumber aside before lines tells lists → AllByRecursion AreBare lists
  bare_judged before [] [] [] so_far = tt
  bare_judged before [] (t ∷ tells) lists so_far = absurd so_far
  bare_judged before [] [] (M ∷ lists) so_far = absurd so_far
  bare_judged before ([] ∷ lines) tells lists so_far = bare_judged (suc before) lines tells lists so_far
  bare_judged before ((x ∷ xs) ∷ lines) [] lists so_far = absurd so_far
  bare_judged before ((x ∷ xs) ∷ lines) (t ∷ tells) [] so_far = absurd so_far
  bare_judged before ((x ∷ xs) ∷ lines) (t ∷ tells) (M ∷ lists) so_far = (judged_bare (x ∷ xs) t.fault M so_far.1, bare_judged (suc before) lines tells lists so_far.2)

  pub bare_gathered : (before now : ℕ) (a b : Option (List ℕ)) (tells : List Told) (lists : List (List EventValue)) → IsGatheredToNumber aside before now a b tells lists → AllByRecursion AreBare lists
  bare_gathered before now a b tells lists g = bare_judged before g.lines tells lists g.judged

  abbrev one_if : Bool → ℕ
  one_if b = cond b 1 0

  few_one : (b : Bool) → cond b 1 0 ≤ 1
  few_one true = omega arith
  few_one false = omega arith

  few_judged : (before : ℕ) (lines : List (List ℕ)) (tells : List Told) (lists : List (List EventValue)) → AreJudgedToNumber aside before lines tells lists → refusals_in tells ≤ length lines
  few_judged before [] [] [] so_far = omega arith
  few_judged before [] (t ∷ tells) lists so_far = absurd so_far
  few_judged before [] [] (M ∷ lists) so_far = absurd so_far
  few_judged before ([] ∷ lines) tells lists so_far = (let more = few_judged (suc before) lines tells lists so_far in omega (arith, more))
  few_judged before ((x ∷ xs) ∷ lines) [] lists so_far = absurd so_far
  few_judged before ((x ∷ xs) ∷ lines) (t ∷ tells) [] so_far = absurd so_far
  few_judged before ((x ∷ xs) ∷ lines) (t ∷ tells) (M ∷ lists) so_far =
      let more = few_judged (suc before) lines tells lists so_far.2 in
      let one : one_if (is_some t.fault) ≤ 1 = few_one (is_some t.fault) in
      omega (arith, more, one, sum_by-cons (λ (t : Told). one_if (is_some t.fault)) t tells)

  -- the lines of a turn that are refused are no more than its lines
  pub few_gathered : (before now : ℕ) (a b : Option (List ℕ)) (tells : List Told) (lists : List (List EventValue)) → IsGatheredToNumber aside before now a b tells lists → before + refusals_in tells ≤ now
  few_gathered before now a b tells lists g = (let few = few_judged before g.lines tells lists g.judged in omega (arith, few, g.count))

  -- ---- lines behind lines

  takes_from : (a b c : Option (List ℕ)) (lines : List (List ℕ)) → Consumes a b [] → TakesLines b lines c → TakesLines a lines c
  takes_from a b c [] none it = Consumes-trans a b c [] [] none it
  takes_from a b c (l ∷ lines) none (mid, first, later) = (mid, takes_same a b mid l none first, later)

  pub takes_join : (a b c : Option (List ℕ)) (lines more : List (List ℕ)) → TakesLines a lines b → TakesLines b more c → TakesLines a (lines ++ more) c
  takes_join a b c [] more none it = takes_from a b c more none it
  takes_join a b c (l ∷ lines) more (mid, first, later) it = (mid, first, takes_join mid b c lines more later it)

  pub judged_join : (before now : ℕ) (lines more : List (List ℕ)) (tells tells' : List Told) (lists lists' : List (List EventValue)) → now ≡ before + length lines → AreJudgedToNumber aside before lines tells lists → AreJudgedToNumber aside now more tells' lists'
      → AreJudgedToNumber aside before (lines ++ more) (tells ++ tells') (lists ++ lists')
  judged_join before now [] more [] tells' [] lists' count so_far it = (let here : now ≡ before = omega (arith, count) in subst (λ n. AreJudgedToNumber aside n more tells' lists') here it)
  judged_join before now [] more (t ∷ tells) tells' lists lists' count so_far it = absurd so_far
  judged_join before now [] more [] tells' (M ∷ lists) lists' count so_far it = absurd so_far
  judged_join before now ([] ∷ lines) more tells tells' lists lists' count so_far it = judged_join (suc before) now lines more tells tells' lists lists' (omega (arith, count)) so_far it
  judged_join before now ((x ∷ xs) ∷ lines) more [] tells' lists lists' count so_far it = absurd so_far
  judged_join before now ((x ∷ xs) ∷ lines) more (t ∷ tells) tells' [] lists' count so_far it = absurd so_far
  judged_join before now ((x ∷ xs) ∷ lines) more (t ∷ tells) tells' (M ∷ lists) lists' count so_far it = (so_far.0, so_far.1, judged_join (suc before) now lines more tells tells' lists lists' (omega (arith, count)) so_far.2 it)

  -- ---- events as they are numbered

  pub own_more : (given events : List EventValue) (e x : EventValue) → AreOwn aside given events → IsOwn aside e x → AreOwn aside (given ++ e ∷ []) (events ++ x ∷ [])
  own_more [] [] e x are one = (one, tt)
  own_more [] (y ∷ events) e x are one = absurd are
  own_more (f ∷ given) [] e x are one = absurd are
  own_more (f ∷ given) (y ∷ events) e x are one = (are.0, own_more given events e x are.1 one)
