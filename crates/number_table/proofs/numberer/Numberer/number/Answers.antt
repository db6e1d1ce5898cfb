use Rattle.std.proofs.Common.{◌≡◌, ◌∙◌, IsTrue, Some, sym, subst}
use Rattle.std.proofs.lemmas.Result.{err_from_is_err_and}
use Rattle.sqlite.specs.Effect.{Database}
use Rattle.sqlite.specs.Held.{state}
use Rattle.sqlite.specs.State.{HasCleanDisk}
use Rattle.sqlite.proofs.StateLemmas.{survives_then, survives_weaker}
use Rattle.inbox_table.specs.Calls.{MayTake}
use Rattle.number_table.specs.Calls.{StandsNumbered}
use Rattle.number_table.proofs.LookLemmas.{looks_then, stands_still}
use Rattle.number_table.proofs.StandLemmas.{kept, known_one, refused, given_up, was_clean}
use Rattle.number_table.proofs.numberer.Numberer.number.Goals as goal

-- the table refused the look-ups
pub returns-in_err-answer-clause-effect : goal.returns-in_err-answer-clause-effect
returns-in_err-answer-clause-effect g c =
    let old = state g.S.Store c.args.self.now.table.conn in
    let new = state g.S.Store c.answer_all.new.table.conn in
    rw (err_from_is_err_and c.from_residual.result c.from_residual.ensures.1).1 (record {
      numbers = λ clean events rows was. tt;
      refused = λ events rows was. subst (StandsNumbered c.args.self.now.base events rows new) (sym c.take.ensures.after) (given_up c.args.self.now.base events rows new c.args.self.now.counted (stands_still c.args.self.now.base events rows old new c.args.self.now.counted c.answer_all.ensures.looks was));
    })

pub returns-in_err-answer-clause-leaves : goal.returns-in_err-answer-clause-leaves
returns-in_err-answer-clause-leaves g c clean = rw (err_from_is_err_and c.from_residual.result c.from_residual.ensures.1).1 (record { stays_open = tt; settled = tt; same = λ still. c.answer_all.ensures.looks.same clean still })

pub returns-in_err-answer-clause-crash : goal.returns-in_err-answer-clause-crash
returns-in_err-answer-clause-crash g c =
    let old = state g.S.Store c.args.self.now.table.conn in
    let new = state g.S.Store c.answer_all.new.table.conn in
    survives_weaker old new _ _ (λ clean trees none. absurd none) c.answer_all.ensures.looks.survives

pub returns-in-Ok-clause-effect : goal.returns-in-Ok-clause-effect
returns-in-Ok-clause-effect g c =
    let old = state g.S.Store c.args.self.now.table.conn in
    let mid = state g.S.Store c.answer_all.new.table.conn in
    let new = state g.S.Store c.keep.new.self.conn in
    let base = c.args.self.now.base in
    let has : c.args.self.now.counted ≡ Some c.in-Some-take.counted = sym c.take.ensures.value ∙ c.in-Some-take.is in
    record {
      numbers = λ clean events rows was.
          let w = subst (StandsNumbered base events rows old) has was in
          let it = c.in_ok-answer.ensures.numbers (was_clean mid new _ c.keep.ensures.crash clean) base events rows w in
          let then = stands_still base events rows old mid (Some c.in-Some-take.counted) c.answer_all.ensures.looks w in
          (it.0, kept base c.args.events.now events rows c.in_ok-answer.answer.batch mid new c.in-Some-take.counted c.answer_all.new.counted _ _ then c.in_default.ensures.bare c.in_ok-answer.ensures.events it.0 it.1 c.keep.ensures.crash c.in-Ok.ensures.effect);
      refused = λ events rows was. tt;
    }

pub returns-in-Err-clause-effect : goal.returns-in-Err-clause-effect
returns-in-Err-clause-effect g c =
    let old = state g.S.Store c.args.self.now.table.conn in
    let mid = state g.S.Store c.answer_all.new.table.conn in
    let new = state g.S.Store c.keep.new.self.conn in
    let base = c.args.self.now.base in
    let counted = c.args.self.now.counted in
    record {
      numbers = λ clean events rows was. tt;
      refused = λ events rows was. subst (StandsNumbered base events rows new) (sym c.take.ensures.after) (refused base events rows c.in_ok-answer.answer.batch mid new counted _ _ (stands_still base events rows old mid counted c.answer_all.ensures.looks was) c.keep.ensures.crash c.in-Err.ensures.effect);
    }

pub returns-in-Err-clause-leaves : goal.returns-in-Err-clause-leaves
returns-in-Err-clause-leaves g c clean =
    let mid = state g.S.Store c.answer_all.new.table.conn in
    let new = state g.S.Store c.keep.new.self.conn in
    let effect = c.in-Err.ensures.effect clean in
    record {
      stays_open = tt;
      settled = tt;
      same = λ still. effect.same still ∙ c.answer_all.ensures.looks.same (was_clean mid new _ c.keep.ensures.crash clean) (effect.was_open still);
    }

pub returns-in-Ok-clause-crash : goal.returns-in-Ok-clause-crash
returns-in-Ok-clause-crash g c =
    let old = state g.S.Store c.args.self.now.table.conn in
    let mid = state g.S.Store c.answer_all.new.table.conn in
    let new = state g.S.Store c.keep.new.self.conn in
    let base = c.args.self.now.base in
    let has : c.args.self.now.counted ≡ Some c.in-Some-take.counted = sym c.take.ensures.value ∙ c.in-Some-take.is in
    survives_then old mid new _ _ _ (λ _ db none. absurd none)
    (λ clean trees may still.
    let before : HasCleanDisk mid = was_clean mid new _ c.keep.ensures.crash clean in
    let open_then : IsTrue mid.is_open = c.in_ok-answer.ensures.open before still in
    record {
      answers = c.in_ok-answer.answer.batch;
      numbers = λ events rows was. (c.in_ok-answer.ensures.numbers before base events rows (subst (StandsNumbered base events rows old) has was)).0;
      takes = subst (λ (db : Database). MayTake c.in_ok-answer.answer.batch db trees) (c.answer_all.ensures.looks.same before open_then) (may open_then);
    }) c.answer_all.ensures.looks.survives c.keep.ensures.crash

pub returns-in-Err-clause-crash : goal.returns-in-Err-clause-crash
returns-in-Err-clause-crash g c =
    let old = state g.S.Store c.args.self.now.table.conn in
    let mid = state g.S.Store c.answer_all.new.table.conn in
    let new = state g.S.Store c.keep.new.self.conn in
    let base = c.args.self.now.base in
    let has : c.args.self.now.counted ≡ Some c.in-Some-take.counted = sym c.take.ensures.value ∙ c.in-Some-take.is in
    survives_then old mid new _ _ _ (λ _ db none. absurd none)
    (λ clean trees may still.
    let before : HasCleanDisk mid = was_clean mid new _ c.keep.ensures.crash clean in
    let open_then : IsTrue mid.is_open = c.in_ok-answer.ensures.open before still in
    record {
      answers = c.in_ok-answer.answer.batch;
      numbers = λ events rows was. (c.in_ok-answer.ensures.numbers before base events rows (subst (StandsNumbered base events rows old) has was)).0;
      takes = subst (λ (db : Database). MayTake c.in_ok-answer.answer.batch db trees) (c.answer_all.ensures.looks.same before open_then) (may open_then);
    }) c.answer_all.ensures.looks.survives c.keep.ensures.crash

-- each event had its number, and the table was looked at once more
pub returns-in_err-look_at-clause-effect : goal.returns-in_err-look_at-clause-effect
returns-in_err-look_at-clause-effect g c =
    let old = state g.S.Store c.args.self.now.table.conn in
    let mid = state g.S.Store c.answer_all.new.table.conn in
    let new = state g.S.Store c.look_at.new.table.conn in
    let looks = looks_then old mid new c.answer_all.ensures.looks c.look_at.ensures.looks in
    rw (err_from_is_err_and c.from_residual-in_err-look_at.result c.from_residual-in_err-look_at.ensures.1).1 (record {
      numbers = λ clean events rows was. tt;
      refused = λ events rows was. subst (StandsNumbered c.args.self.now.base events rows new) (sym c.take.ensures.after) (given_up c.args.self.now.base events rows new c.args.self.now.counted (stands_still c.args.self.now.base events rows old new c.args.self.now.counted looks was));
    })

pub returns-in_err-look_at-clause-leaves : goal.returns-in_err-look_at-clause-leaves
returns-in_err-look_at-clause-leaves g c clean =
    let old = state g.S.Store c.args.self.now.table.conn in
    let mid = state g.S.Store c.answer_all.new.table.conn in
    let new = state g.S.Store c.look_at.new.table.conn in
    let looks = looks_then old mid new c.answer_all.ensures.looks c.look_at.ensures.looks in
    rw (err_from_is_err_and c.from_residual-in_err-look_at.result c.from_residual-in_err-look_at.ensures.1).1 (record { stays_open = tt; settled = tt; same = λ still. looks.same clean still })

pub returns-in_err-look_at-clause-crash : goal.returns-in_err-look_at-clause-crash
returns-in_err-look_at-clause-crash g c =
    let old = state g.S.Store c.args.self.now.table.conn in
    let mid = state g.S.Store c.answer_all.new.table.conn in
    let new = state g.S.Store c.look_at.new.table.conn in
    survives_weaker old new _ _ (λ clean trees none. absurd none) (looks_then old mid new c.answer_all.ensures.looks c.look_at.ensures.looks).survives

pub returns-then-answer-clause-effect : goal.returns-then-answer-clause-effect
returns-then-answer-clause-effect g c =
    let old = state g.S.Store c.args.self.now.table.conn in
    let mid = state g.S.Store c.answer_all.new.table.conn in
    let new = state g.S.Store c.look_at.new.table.conn in
    let base = c.args.self.now.base in
    let looks = looks_then old mid new c.answer_all.ensures.looks c.look_at.ensures.looks in
    let has : c.args.self.now.counted ≡ Some c.in-Some-take.counted = sym c.take.ensures.value ∙ c.in-Some-take.is in
    record {
      numbers = λ clean events rows was.
          let w = subst (StandsNumbered base events rows old) has was in
          let it = c.in_ok-answer.ensures.numbers (was_clean mid new _ c.look_at.ensures.looks.survives clean) base events rows w in
          let still = stands_still base events rows old new (Some c.in-Some-take.counted) looks w in
          (it.0, known_one base c.args.events.now events rows c.in_ok-answer.answer.batch new c.in-Some-take.counted c.answer_all.new.counted still c.in_default.ensures.bare c.in_ok-answer.ensures.events it.0 it.1 (it.2 c.if-answer.true));
      refused = λ events rows was. tt;
    }

pub returns-then-answer-clause-leaves : goal.returns-then-answer-clause-leaves
returns-then-answer-clause-leaves g c clean =
    let stays = c.in_ok-look_at.ensures.stays clean in
    record { stays_open = stays.0; settled = stays.1; same = λ still. tt }

pub returns-then-answer-clause-crash : goal.returns-then-answer-clause-crash
returns-then-answer-clause-crash g c =
    let old = state g.S.Store c.args.self.now.table.conn in
    let mid = state g.S.Store c.answer_all.new.table.conn in
    let new = state g.S.Store c.look_at.new.table.conn in
    survives_weaker old new _ _ (λ clean trees none. absurd none) (looks_then old mid new c.answer_all.ensures.looks c.look_at.ensures.looks).survives
