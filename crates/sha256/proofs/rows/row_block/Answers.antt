use Rattle.std.proofs.Common.{◌≡◌, ◌+◌, ◌*◌, rules, arith}
use Rattle.sha256.proofs.RowBlock.{row_digest}
use Rattle.sha256.proofs.rows.row_block.Goals as goal

pub returns : goal.returns
returns c =
    let last : c.from_be_bytes-last.result ≡ c.args.place * 0x100_0000 + 0x80_0000 = omega arith in
    simp last
    (row_digest c.args.left c.args.right c.words_of.result c.words_of-2.result c.args.gate c.args.place
    (search rules) (search rules) (search rules) c.words_of.ensures c.words_of-2.ensures)
