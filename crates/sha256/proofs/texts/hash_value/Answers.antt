use Rattle.std.proofs.Common.{rules, length, ◌/◌, ◌∙◌, arith}
use Rattle.std.specs.Simd.{first_chunks}
use Rattle.std.proofs.lemmas.Iterator.{YieldsList-from_slice}
use Rattle.std.proofs.lemmas.Iterator.Consumers.{fold_from_yields_List}
use Rattle.sha256.specs.Hash.{compressed, words, start}
use Rattle.sha256.proofs.Padding.{value_blocks, hashed}
use Rattle.sha256.proofs.texts.hash_value.Goals as goal

pub returns : goal.returns
returns c =
    let text = c.args.text.now in
    let ran = fold_from_yields_List _ (λ h b. compressed h (words b)) start _ c.fold-state.ensures.ran
    (YieldsList-from_slice (first_chunks 64 (length text / 64) text) (search rules)) (λ a x b q k. search rules) in
    hashed text c.ended.result (c.ended.ensures ∙ value_blocks (length text) (length text / 64) start text _ _ (omega arith) c.as_chunks.ensures.back ran)
