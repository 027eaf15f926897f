use Rattle.std.proofs.Common.{rules, get_or}
use Rattle.sha256.specs.Words.{◌⊞◌}
use Rattle.circuit.proofs.Arrays.{made}
use Rattle.sha256.proofs.compression.sums.Goals as goal

pub returns : goal.returns
returns c =
    made _ _ (λ i. get_or c.args.s i 0 ⊞ get_or c.args.t i 0) c.from_fn.result 8 c.from_fn.ensures.items (λ i y q below k. search rules) 0
