-- What is acknowledged of an input, turn after turn.
use Rattle.std.proofs.Common.{◌≡◌, ◌+◌, ◌++◌, ℕ, suc, List, [], ◌∷◌, length, Option, refl, sym, ap, ◌∙◌, subst, arith, append_assoc, length-append}
use Rattle.std.specs.Io.KnownBytes.{Consumes}
use Rattle.std.proofs.KnownBytes.{Consumes-nil, Consumes-trans}
use Rattle.attributes.specs.Event.{EventValue}
use Rattle.line_intake.specs.Acknowledged.{AreTold}
use Rattle.line_intake.specs.Answers.{answer_line, answers_text}
use Rattle.line_intake.specs.Judged.{AreJudged, IsGathered, TakesLines}
use Rattle.line_intake.specs.declared.answer.Told.{Told}
use Rattle.line_intake.proofs.GatherLemmas.{even_judged, takes_same}

takes_from : (a b c : Option (List ℕ)) (lines : List (List ℕ)) → Consumes a b [] → TakesLines b lines c → TakesLines a lines c
takes_from a b c [] none it = Consumes-trans a b c [] [] none it
takes_from a b c (l ∷ lines) none (mid, first, later) = (mid, takes_same a b mid l none first, later)

takes_join : (a b c : Option (List ℕ)) (lines more : List (List ℕ)) → TakesLines a lines b → TakesLines b more c → TakesLines a (lines ++ more) c
takes_join a b c [] more none it = takes_from a b c more none it
takes_join a b c (l ∷ lines) more (mid, first, later) it = (mid, first, takes_join mid b c lines more later it)

judged_join : (before now : ℕ) (lines more : List (List ℕ)) (tells tells' : List Told) (lists lists' : List (List EventValue)) → now ≡ before + length lines → AreJudged before lines tells lists → AreJudged now more tells' lists'
    → AreJudged before (lines ++ more) (tells ++ tells') (lists ++ lists')
judged_join before now [] more [] tells' [] lists' count so_far it = (let here : now ≡ before = omega (arith, count) in subst (λ n. AreJudged n more tells' lists') here it)
judged_join before now [] more (t ∷ tells) tells' lists lists' count so_far it = absurd so_far
judged_join before now [] more [] tells' (M ∷ lists) lists' count so_far it = absurd so_far
judged_join before now ([] ∷ lines) more tells tells' lists lists' count so_far it = judged_join (suc before) now lines more tells tells' lists lists' (omega (arith, count)) so_far it
judged_join before now ((x ∷ xs) ∷ lines) more [] tells' lists lists' count so_far it = absurd so_far
judged_join before now ((x ∷ xs) ∷ lines) more (t ∷ tells) tells' [] lists' count so_far it = absurd so_far
judged_join before now ((x ∷ xs) ∷ lines) more (t ∷ tells) tells' (M ∷ lists) lists' count so_far it = (so_far.0, so_far.1, judged_join (suc before) now lines more tells tells' lists lists' (omega (arith, count)) so_far.2 it)

answers_join : (tells tells' : List Told) (lists lists' : List (List EventValue)) (each each' : List ℕ) → length tells ≡ length lists → length each ≡ length lists
    → answers_text (tells ++ tells') (lists ++ lists') (each ++ each') ≡ answers_text tells lists each ++ answers_text tells' lists' each'
answers_join [] tells' [] lists' [] each' a b = refl
answers_join [] tells' (M ∷ lists) lists' each each' a b = absurd (omega (arith, a))
answers_join (t ∷ tells) tells' [] lists' each each' a b = absurd (omega (arith, a))
answers_join [] tells' [] lists' (n ∷ each) each' a b = absurd (omega (arith, b))
answers_join (t ∷ tells) tells' (M ∷ lists) lists' [] each' a b = absurd (omega (arith, b))
answers_join (t ∷ tells) tells' (M ∷ lists) lists' (n ∷ each) each' a b =
    let line = answer_line t (length M) n in
    ap (λ l. line ++ l) (answers_join tells tells' lists lists' each each' (omega (arith, a)) (omega (arith, b)))
    ∙ sym (append_assoc line (answers_text tells lists each) (answers_text tells' lists' each'))

-- nothing is acknowledged yet
pub told_none : (a : Option (List ℕ)) → (none : AreTold a a [] []) × (0 ≡ length none.lines)
told_none a = (record { lines = []; lists = []; each = []; taken = Consumes-nil a; judged = tt; one_each = refl; are = refl }, refl)

-- lines that were gathered are acknowledged too
pub told_more : (a b c : Option (List ℕ)) (before next : ℕ) (tells tells' : List Told) (text : List ℕ) (lists' : List (List EventValue)) (each' : List ℕ) (told : AreTold a b tells text) → before ≡ length told.lines → IsGathered before next b c tells' lists'
    → length each' ≡ length lists' → (more : AreTold a c (tells ++ tells') (text ++ answers_text tells' lists' each')) × (next ≡ length more.lines)
told_more a b c before next tells tells' text lists' each' told count g even = (
  record {
    lines = told.lines ++ g.lines;
    lists = told.lists ++ lists';
    each = told.each ++ each';
    taken = takes_join a b c told.lines g.lines told.taken g.taken;
    judged = judged_join 0 before told.lines g.lines tells tells' told.lists lists' (omega (arith, count)) told.judged g.judged;
    one_each = (let e : length (told.each ++ each') ≡ length (told.lists ++ lists') = omega (arith, even, told.one_each, length-append told.each each', length-append told.lists lists') in e);
    are = ap (λ l. l ++ answers_text tells' lists' each') told.are
        ∙ sym (answers_join tells tells' told.lists lists' told.each each' (even_judged 0 told.lines tells told.lists told.judged) told.one_each);
  },
  (let e : next ≡ length (told.lines ++ g.lines) = omega (arith, count, g.count, length-append told.lines g.lines) in e),
)
