use Rattle.std.proofs.Common.{◌≡◌, length, ap, ◌∙◌, zip, fold, rules, arith}
use Rattle.std.specs.Simd.{first_chunks}
use Rattle.std.proofs.lemmas.Iterator.{YieldsList-from_slice, YieldsList-from_zip}
use Rattle.std.proofs.lemmas.Iterator.Consumers.{fold_from_yields_List}
use Rattle.std.proofs.lemmas.List.{take-append-le, take_all}
use Rattle.sha256.specs.Hash.{sums, compressed, constants, rounds, schedule}
use Rattle.sha256.specs.Turns.{steps}
use Rattle.sha256.proofs.Rounds.{all_rounds}
use Rattle.sha256.proofs.compression.compress.Goals as goal

pub returns : goal.returns
unfolding compressed
returns c =
    let words = c.extend.new.w in
    let ran : c.fold-last.result ≡ fold steps c.args.state (zip (first_chunks 8 8 constants) (first_chunks 8 8 words)) =
    fold_from_yields_List _ steps c.args.state _ c.fold-last.ensures.ran
    (YieldsList-from_zip (YieldsList-from_slice (first_chunks 8 8 constants) (search rules)) (YieldsList-from_slice (first_chunks 8 8 words) (search rules)))
    (λ a x b q k. search rules) in
    let first : length c.copy_from_slice.new.self ≡ 16 = c.copy_from_slice.ensures.len in
    let made : words ≡ schedule c.args.block =
    c.extend.ensures
    ∙ ap schedule (take-append-le 16 c.copy_from_slice.new.self _ (omega arith) ∙ take_all 16 c.copy_from_slice.new.self (omega arith) ∙ c.copy_from_slice.ensures.after) in
    c.sums.ensures ∙ ap (λ s. sums s c.args.state) (ran ∙ all_rounds words c.args.state (search rules) ∙ ap (λ w. rounds 64 w c.args.state) made)
