use Rattle.std.proofs.Common.{rules, ap, sym, subst, ◌∙◌, ◌≡◌, ◌+◌, ◌++◌, ◌∷◌, [], true, if◌then◌else◌, arith}
use Rattle.std.specs.Prelude.{vec_len}
use Rattle.std.specs.Result.{is_ok}
use Rattle.block_digests.specs.Kept.{KeepsDigests}
use Rattle.block_digests.specs.steps.Index.{IsIndex, kept_in}
use Rattle.block_digests.proofs.IndexLemmas.{alike_made, found_made, index_made}
use Rattle.block_digests.proofs.blocks.find_or_make.Goals as goal

pub returns-clause-index : goal.returns-clause-index
returns-clause-index c =
    let n = vec_len c.args.blocks.now in
    let pushed : is_ok c.push.result ≡ true = c.push.ensures.succeeds (omega (arith, c.in_ok-reserve.ensures.ok)) in
    let more : vec_len c.push.new.self ≡ n + 1 = c.push.ensures.len ∙ ap (λ b. if b then vec_len c.reserve.new.self + 1 else vec_len c.reserve.new.self) pushed ∙ ap (λ m. m + 1) c.reserve.ensures.len in
    subst (IsIndex c.insert_position.new.index) (sym more)
    (index_made c.args.index.now c.insert_position.new.index c.args.source.now c.args.k n c.requires (sym c.position.ensures ∙ c.in_default.is) (λ s j. c.in_ok-insert_position.ensures.ok s j ∙ search rules))

pub returns-clause-there : goal.returns-clause-there
returns-clause-there c =
    let n = vec_len c.args.blocks.now in
    found_made c.args.index.now c.insert_position.new.index c.args.source.now c.args.k n c.requires (sym c.position.ensures ∙ c.in_default.is) (λ s j. c.in_ok-insert_position.ensures.ok s j ∙ search rules) ∙ search rules

pub returns-clause-alike : goal.returns-clause-alike
returns-clause-alike c =
    let n = vec_len c.args.blocks.now in
    let pushed : is_ok c.push.result ≡ true = c.push.ensures.succeeds (omega (arith, c.in_ok-reserve.ensures.ok)) in
    let items : c.push.new.self.items ≡ c.args.blocks.now.items ++ c.empty.result ∷ [] =
    c.push.ensures.items ∙ ap (λ b. if b then c.reserve.new.self.items ++ c.empty.result ∷ [] else c.reserve.new.self.items) pushed ∙ ap (λ l. l ++ c.empty.result ∷ []) c.reserve.ensures.items in
    subst (λ l. KeepsDigests (kept_in c.args.index.now c.args.blocks.now.items) (kept_in c.insert_position.new.index l)) (sym items)
    (alike_made c.args.index.now c.insert_position.new.index c.args.source.now c.args.k n c.requires (sym c.position.ensures ∙ c.in_default.is) (λ s j. c.in_ok-insert_position.ensures.ok s j ∙ search rules)
    c.args.blocks.now.items c.empty.result (search rules) c.empty.ensures.places c.empty.ensures.digest)
