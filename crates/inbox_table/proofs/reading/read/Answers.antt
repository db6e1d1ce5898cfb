use Rattle.std.proofs.Common.{◌≡◌, ◌∙◌, IsTrue, [], rules, subst, sym}
use Rattle.std.proofs.lemmas.Result.{IfErr-weaker, IfOk-weaker}
use Rattle.sqlite.specs.Held.{state}
use Rattle.sqlite.specs.State.{CommitsShowing, HasCleanDisk, IsUnchanged, Survives}
use Rattle.sqlite.proofs.StateLemmas.{survives_then}
use Rattle.inbox_table.specs.Rows.{IsListed}
use Rattle.inbox_table.specs.Texts.{select_text}
use Rattle.inbox_table.specs.steps.Reads.{IsTableReading, TellsRows}
use Rattle.inbox_table.proofs.ReadLemmas.{at_start, begun_same}
use Rattle.inbox_table.proofs.SameLemmas.{kept_same, kept_then, on_weaker, plain_in, refused_same, survives_reading}
use Rattle.inbox_table.proofs.reading.read.Goals as goal

pub returns-in_err-rows-clause-same : goal.returns-in_err-rows-clause-same
returns-in_err-rows-clause-same g c =
    let old = state g.S.Store c.args.conn.now in
    let new = state g.S.Store c.query.follows.lender-at-none in
    let held = rw (c.in_err-rows.was, c.select_of.ensures) at c.query.follows.holds-at-none in
    let auto : IsTrue c.is_autocommit.result = search rules in
    let survives : Survives old new (CommitsShowing (select_text c.args.version) [] old) = held.survives in
    refused_same (select_text c.args.version) [] old new _ _ survives (c.is_autocommit.ensures.settled auto) (λ clean. held.err clean)

pub returns-in_err-rows-clause-survives : goal.returns-in_err-rows-clause-survives
returns-in_err-rows-clause-survives g c =
    let old = state g.S.Store c.args.conn.now in
    let new = state g.S.Store c.query.follows.lender-at-none in
    let held = rw (c.in_err-rows.was, c.select_of.ensures) at c.query.follows.holds-at-none in
    let survives : Survives old new (CommitsShowing (select_text c.args.version) [] old) = held.survives in
    survives_reading (select_text c.args.version) [] old new (plain_in c.args.version old c.requires) survives

pub read_rows-requires : goal.read_rows-requires
read_rows-requires g c clean = (at_start c.args.version g.S.Store c.args.conn.now c.in_ok-rows.rows.conn.now c.requires c.schema-schema.ensures.live (rw c.select_of.ensures at (c.in_ok-rows.ensures.begun clean))).0

-- the connection ends as the cursor's does
ends : (g : _) (c : goal.After-conn-2-1 g) → c.read_rows.new.rows.conn.now ≡ c.conn-2-1.given.0
ends g c = search rules

clean_end : (g : _) (c : goal.After-conn-2-1 g) → HasCleanDisk (state g.S.Store c.conn-2-1.given.0) → HasCleanDisk (state g.S.Store c.read_rows.new.rows.conn.now)
clean_end g c = subst (λ h. HasCleanDisk (state g.S.Store h)) (sym (ends g c))

begun : (g : _) (c : goal.After-conn-2-1 g) → HasCleanDisk (state g.S.Store c.read_rows.new.rows.conn.now) → IsUnchanged (state g.S.Store c.args.conn.now) (state g.S.Store c.in_ok-rows.rows.conn.now)
begun g c = begun_same c.args.version g.S.Store c.args.conn.now c.in_ok-rows.rows.conn.now c.read_rows.new.rows.conn.now c.requires c.schema-schema.ensures.live (λ clean. rw c.select_of.ensures at (c.in_ok-rows.ensures.begun clean)) c.read_rows.ensures.survives

survived : (g : _) (c : goal.After-conn-2-1 g) → Survives (state g.S.Store c.args.conn.now) (state g.S.Store c.read_rows.new.rows.conn.now) (λ _. ⊥)
survived g c =
    let old = state g.S.Store c.args.conn.now in
    let start = state g.S.Store c.in_ok-rows.rows.conn.now in
    let first : Survives old start (CommitsShowing (select_text c.args.version) [] old) = rw c.select_of.ensures at c.in_ok-rows.ensures.survives in
    survives_then old start (state g.S.Store c.read_rows.new.rows.conn.now) _ _ _ (λ _ db none. none) (λ _ db none. none) (survives_reading (select_text c.args.version) [] old start (plain_in c.args.version old c.requires) first) c.read_rows.ensures.survives

pub returns-clause-tells : goal.returns-clause-tells
returns-clause-tells g c clean =
    let late = clean_end g c clean in
    IfOk-weaker c.read_rows.result _ _ (λ f it. subst (λ db. TellsRows c.args.version (g.W.Wanted.wanted c.args.wanted.now) db f.rows f.events) (begun g c late).0.now_is it) (c.read_rows.ensures.tells late)

pub returns-clause-foreign : goal.returns-clause-foreign
returns-clause-foreign g c clean =
    let late = clean_end g c clean in
    IfErr-weaker c.read_rows.result _ _ (λ f refuses is l box. refuses is l (subst (λ db. IsListed c.args.version db l) (sym (begun g c late).0.now_is) box)) (c.read_rows.ensures.foreign late)

pub returns-clause-open : goal.returns-clause-open
returns-clause-open g c clean =
    let late = clean_end g c clean in
    on_weaker c.read_rows.result _ _ (λ same. subst (λ h. IsTrue (state g.S.Store h).is_open) (ends g c) same.0.is_open) (c.read_rows.ensures.unchanged late)

pub returns-clause-settled : goal.returns-clause-settled
returns-clause-settled g c clean =
    let late = clean_end g c clean in
    let first = (begun g c late).0 in
    let auto : IsTrue c.is_autocommit.result = search rules in
    let was = c.is_autocommit.ensures.settled auto first.was_open in
    on_weaker c.read_rows.result _ _ (λ same. subst (λ h. (state g.S.Store h).now ≡ (state g.S.Store h).committed) (ends g c) (same.0.now_is ∙ first.now_is ∙ was ∙ sym (same.0.committed_is ∙ first.committed_is))) (c.read_rows.ensures.unchanged late)

pub returns-clause-survives : goal.returns-clause-survives
returns-clause-survives g c = subst (λ h. Survives (state g.S.Store c.args.conn.now) (state g.S.Store h) (λ _. ⊥)) (ends g c) (survived g c)

pub returns-clause-same : goal.returns-clause-same
returns-clause-same g c =
    let old = state g.S.Store c.args.conn.now in
    let start = state g.S.Store c.in_ok-rows.rows.conn.now in
    let last = state g.S.Store c.read_rows.new.rows.conn.now in
    let auto : IsTrue c.is_autocommit.result = search rules in
    subst (λ h. IsTableReading old (state g.S.Store h)) (ends g c)
    (kept_same old last _ (survived g c) (c.is_autocommit.ensures.settled auto) (λ clean. kept_then old start last (begun g c clean) (c.read_rows.ensures.kept clean)))
