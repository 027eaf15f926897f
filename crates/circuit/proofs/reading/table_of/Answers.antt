use Rattle.std.proofs.Common.{◌≡◌, ◌-◌, ◌<◌, ℕ, false, eqb, get_or, rules, arith, sym, ◌∙◌}
use Rattle.std.specs.Int.{bit_at}
use Rattle.std.proofs.lemmas.Nat.Bits.{shr_and_one}
use Rattle.circuit.proofs.Arrays.{made_at}
use Rattle.circuit.proofs.Numbers.{four_bits}
use Rattle.circuit.proofs.Values.{four_of}
use Rattle.circuit.proofs.reading.table_of.Goals as goal

pub returns : goal.returns
returns c =
    let made = c.from_fn.ensures.items in
    let ys = c.from_fn.result in
    let x = c.args.gives in
    let at : (k : ℕ) → k < 4 → get_or ys k false ≡ eqb (bit_at x (3 - k)) 1 =
    (λ k below. made_at _ _ (λ k. eqb (bit_at x (3 - k)) 1) ys 4 made (λ i y q low call. let bit = shr_and_one x (3 - i) in search rules) k false below) in
    four_of ys made.long ∙ rw (at 0 (omega arith), at 1 (omega arith), at 2 (omega arith), at 3 (omega arith)) (sym (four_bits x))
