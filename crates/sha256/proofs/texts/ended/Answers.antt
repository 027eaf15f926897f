use Rattle.std.proofs.Common.{◌≡◌, ◌*◌, ◌%◌, ◌^◌, arith}
use Rattle.sha256.proofs.Padding.{value_short, value_long}
use Rattle.sha256.proofs.texts.ended.Goals as goal

pub returns-then-rest-lt56 : goal.returns-then-rest-lt56
returns-then-rest-lt56 c =
    let bits : (c.args.size * 8) % 2 ^ 64 ≡ (8 * c.args.size) % 2 ^ 64 = omega arith in
    value_short c.args.size c.args.state c.args.rest.now c.requires.part _ _ _ _ _ (omega arith) bits
    c.marked.ensures c.words_of-block.ensures c.sized.ensures c.compress.ensures

pub returns-else-rest-lt56 : goal.returns-else-rest-lt56
returns-else-rest-lt56 c =
    let bits : (c.args.size * 8) % 2 ^ 64 ≡ (8 * c.args.size) % 2 ^ 64 = omega arith in
    value_long c.args.size c.args.state c.args.rest.now c.requires.part _ _ _ _ _ _ (omega arith) bits
    c.marked.ensures c.words_of-block.ensures c.compress-next.ensures c.sized-else-rest-lt56.ensures c.compress-else-rest-lt56.ensures
