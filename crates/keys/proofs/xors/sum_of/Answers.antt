use Rattle.std.proofs.Common.{arith, rules}
use Rattle.keys.proofs.Sums.{sum_made}
use Rattle.keys.proofs.xors.sum_of.Goals as goal

pub returns : goal.returns
returns c = sum_made c.args.a c.args.b (omega arith) (omega arith) c.from_fn.ensures.items (λ i y q below call. search rules)
