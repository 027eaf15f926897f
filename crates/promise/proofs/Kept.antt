-- The promise, put together. Assumes nothing.
use Rattle.std.proofs.Common.{ℕ, ◌*◌, eqb, List, length, Ok, ap₂}
use Rattle.circuit.specs.Circuit.{Circuit, WellFormed}
use Rattle.circuit.specs.Refusals.{require}
use Rattle.circuit.specs.declared.refusals.Refusal.TheVariants.{Values}
use Rattle.evaluate.proofs.Opened.{opens_right}
use Rattle.promise.specs.Promise.{Promise}
use Rattle.promise.proofs.Interpreted.{interprets}
use Rattle.promise.proofs.PairedDraws.{pairs_bytes}
use Rattle.promise.proofs.Simulated.{simulates}
use Rattle.promise.proofs.Unchanged.{same_received}

pub promise : (c : Circuit) → WellFormed c → Promise c
promise c good =
    record {
      interprets = interprets c good;
      right = λ h hashed. opens_right h hashed c good;
      pairs = pairs_bytes c;
      same_received = λ xs ys bytes h xs_fit ys_fit one_result small hashed. same_received c good xs ys xs_fit ys_fit one_result bytes small h hashed;
      simulates = λ xs bytes h fit small hashed. simulates c good xs fit bytes small h hashed;
      notary = λ vs ps qs size same. ap₂ (λ (n : ℕ) (ks : List (List ℕ)). require (eqb n (2 * length vs)) Values (Ok ks)) size same;
    }
