-- The answer of pairing, and what it means. Assumes nothing.
use Rattle.std.proofs.Common.{◌≡◌, ℕ, Bool, List, length, Some, None, Ok, sym, ◌∙◌, arith}
use Rattle.std.proofs.lemmas.List.{length-map}
use Rattle.std.proofs.lemmas.Bool.{eq-eqb}
use Rattle.std.proofs.lemmas.Bool.Decides.{nat_tests}
use Rattle.circuit.specs.Circuit.{Circuit, WellFormed, wire_count, at, values, result}
use Rattle.circuit.specs.Meaning.{values_for}
use Rattle.scheme.specs.Coins.{coins_of_pair}
use Rattle.scheme.specs.Outcome.{paired, differ, by_difference, pairing, SameResult}
use Rattle.scheme.specs.Results.{first_differing, Differs}
use Rattle.scheme.proofs.Differences.{no_difference, difference}
use Rattle.scheme.proofs.Hiding.{paired_alike}
use Rattle.scheme.proofs.Pairs.{pairs, kept_outputs}

pub values_are : (c : Circuit) (xs known : List Bool) → length xs ≡ c.inputs → values_for c xs ≡ Ok known → known ≡ values c xs
values_are c xs known fit is = grind (arith, nat_tests)

module _ (c : Circuit) (xs ys coins : List Bool) (good : WellFormed c) (xs_fit : length xs ≡ c.inputs) (ys_fit : length ys ≡ c.inputs)
    (coins_fit : length coins ≡ wire_count c) where
  by_result : pairing c xs ys coins ≡ Ok (by_difference (first_differing 0 (result c xs) (result c ys)) (coins_of_pair c xs ys coins))
  by_result = rw (eq-eqb (length xs) c.inputs xs_fit, eq-eqb (length ys) c.inputs ys_fit, eq-eqb (length coins) (wire_count c) coins_fit)

  pub differ_answer : (k : ℕ) → Some k ≡ first_differing 0 (result c xs) (result c ys) → (pairing c xs ys coins ≡ Ok (differ k)) × Differs (result c xs) (result c ys) k
  differ_answer k is =
      let d = difference 0 k (result c xs) (result c ys) (sym is) in
      let same : k ≡ d.0 = omega (arith, d.1) in
      (by_result ∙ rw (← is), rw same d.2)

  pub paired_answer : (ds : List Bool) → None ≡ first_differing 0 (result c xs) (result c ys) → ds ≡ coins_of_pair c xs ys coins →
      (pairing c xs ys coins ≡ Ok (paired ds)) × SameResult c xs ys coins ds
  paired_answer ds is same =
      let as_long : length (result c xs) ≡ length (result c ys) = length-map c.outputs (at (values c xs)) ∙ sym (length-map c.outputs (at (values c ys))) in
      let one_result = no_difference 0 (result c xs) (result c ys) as_long (sym is) in (
        by_result ∙ rw (← is, same),
        rw same
            (record {
              result = one_result;
              pairs = pairs c xs ys coins good xs_fit ys_fit coins_fit;
              outputs = kept_outputs c xs ys coins good xs_fit ys_fit coins_fit one_result;
              alike = paired_alike c xs ys coins good xs_fit ys_fit coins_fit one_result;
            }),
      )
