-- What pairing answers. Assumes nothing.
use Rattle.std.specs.Prelude.{◌≡◌, ℕ, Bool, ◌&&◌, List, length, IfOk, Some, None, Ok, vec_items, Option, Result, ◌==◌}
use Rattle.circuit.specs.Circuit.{Circuit, wire_count, at_all, result}
use Rattle.circuit.specs.Meaning.{circuit_of}
use Rattle.circuit.specs.Refusals.{Answer, require, Answers}
use Rattle.circuit.specs.declared.refusals.Failure.{Failure}
use Rattle.circuit.specs.declared.refusals.Refusal.TheVariants.{Malformed, Values}
use Rattle.circuit.specs.declared.sheets.Sheet.{Sheet}
use Rattle.scheme.specs.Coins.{coins_of_pair, Paired}
use Rattle.scheme.specs.Garbling.{got}
use Rattle.scheme.specs.Promises.{Alike}
use Rattle.scheme.specs.Results.{first_differing, Differs}
use Rattle.scheme.specs.Yao.{yao}
use Rattle.scheme.specs.declared.pairing.Pairing.{Pairing}
use Rattle.scheme.specs.declared.pairing.Pairing.TheVariants.{Coins, Differ}

-- paired coins, or the first output that differs, from 0
pub data Outcome : Type 0 where
  paired : List Bool → Outcome
  differ : ℕ → Outcome

abbrev pub outcome : Pairing → Outcome
outcome (Coins v) = paired (vec_items v)
outcome (Differ k) = differ k

abbrev pub by_difference : Option ℕ → List Bool → Outcome
by_difference None ds = paired ds
by_difference (Some k) ds = differ k

-- the inputs are looked at first, then the coins
abbrev pub pairing : Circuit → List Bool → List Bool → List Bool → Answer Outcome
pairing c xs ys coins =
    require (length xs == c.inputs && length ys == c.inputs) Values (require (length coins == wire_count c) Malformed
    (Ok (by_difference (first_differing 0 (result c xs) (result c ys)) (coins_of_pair c xs ys coins))))

-- one result, and coins that are paired
pub record SameResult (c : Circuit) (xs ys coins ds : List Bool) : Type 0 where
  pub result : result c xs ≡ result c ys
  pub pairs : Paired c xs ys coins ds
  -- those of the outputs, by which a result is read off, stay
  pub outputs : at_all ds c.outputs ≡ at_all coins c.outputs
  -- an opener sees the same of the second input with these coins as of the first with those given, and does not tell the two apart
  pub alike : Alike (got yao c xs coins) (got yao c ys ds)

-- what the answer means
abbrev pub Means : Circuit → List Bool → List Bool → List Bool → Outcome → Type 0
Means c xs ys coins (paired ds) = SameResult c xs ys coins ds
Means c xs ys coins (differ k) = Differs (result c xs) (result c ys) k

-- what pairing promises of its answer
pub record Pairs (s : Sheet) (xs ys coins : List Bool) (r : Result Pairing Failure) : Type 0 where
  pub answer : Answers outcome r (pairing (circuit_of s) xs ys coins)
  pub meaning : IfOk r (λ p. Means (circuit_of s) xs ys coins (outcome p))
