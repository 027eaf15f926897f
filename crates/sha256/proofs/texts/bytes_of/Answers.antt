use Rattle.std.proofs.Common.{◌≡◌, length, take, rules, arith}
use Rattle.std.specs.List.{flat_map}
use Rattle.circuit.specs.Numbers.{digits}
use Rattle.circuit.proofs.Arrays.{made}
use Rattle.sha256.proofs.Bytes.{bytes_are, all_bytes_are}
use Rattle.sha256.proofs.texts.bytes_of.Goals as goal

pub returns : goal.returns
returns g c =
    let eight : length c.args.h ≡ 8 = search rules in
    let first : c.from_fn.result ≡ take g.row.N (flat_map (digits 256 4) c.args.h) =
    (bytes_are g.row.N c.args.h c.from_fn.result (omega arith)
    (made _ _ _ c.from_fn.result g.row.N c.from_fn.ensures.items (λ i y q below k. search rules) 0)) in
    record { first = first; all = λ e. all_bytes_are c.args.h c.from_fn.result eight (rw e at first) }
