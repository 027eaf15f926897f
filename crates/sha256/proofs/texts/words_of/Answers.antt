use Rattle.std.proofs.Common.{rules}
use Rattle.circuit.proofs.Arrays.{made}
use Rattle.sha256.proofs.Bytes.{words_are}
use Rattle.sha256.proofs.texts.words_of.Goals as goal

pub returns : goal.returns
returns g c =
    words_are g.row.N c.args.bytes.now c.as_chunks.result.0.now c.from_fn.result c.requires c.as_chunks.ensures.front
    (made _ _ _ c.from_fn.result g.row.N c.from_fn.ensures.items (λ i y q below k. search rules) 0)
