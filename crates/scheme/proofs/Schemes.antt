-- Of each wire one key, and what is seen is what can be derived: for every circuit. Assumes nothing.
use Rattle.std.proofs.Common.{ℕ, Bool, List}
use Rattle.circuit.specs.Circuit.{Circuit}
use Rattle.scheme.specs.Opening.{Tweak}
use Rattle.scheme.specs.Promises.{OneKeyOf, OneKey, SeenByDerivation}
use Rattle.scheme.specs.Yao.{gate_at, Order, yao_by, numbered}
use Rattle.scheme.proofs.Layouts.{by_number}
use Rattle.scheme.proofs.Rows.{Complete, Naming}
use Rattle.scheme.proofs.Runs.{one_key, sees}

module _ (coin : List Bool → ℕ → Bool) (order : Order) (decoded : Circuit → List ℕ) (complete : (c : Circuit) (q : ℕ → Bool) → Complete (λ k. order q (gate_at c k)) c) where
  pub one_key_of : (tweak : Tweak) (c : Circuit) → Naming tweak c → OneKeyOf (yao_by coin order tweak decoded) c
  one_key_of tweak c naming xs coins fits = one_key coin order tweak decoded c xs coins fits (complete c (coin coins)) naming

  pub one_key_numbered : OneKey (yao_by coin order numbered decoded)
  one_key_numbered c = one_key_of numbered c (by_number c)

  pub seen_by_derivation : SeenByDerivation (yao_by coin order numbered decoded)
  seen_by_derivation c xs coins fits = sees coin order numbered decoded c xs coins fits (complete c (coin coins)) (by_number c)
