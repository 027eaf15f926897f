-- What holds of each item at its number: of the first, and of those after it. Assumes nothing.
use Rattle.std.proofs.Common.{◌≡◌, ℕ, suc, ◌+◌, ◌<◌, List, ◌∷◌, length, get_or, arith}

module _ {X : Type 0} (Good : ℕ → X → Type 0) (k : ℕ) (x : X) (xs : List X) (d : X)
    (each : (j : ℕ) → j < length (x ∷ xs) → Good (k + j) (get_or (x ∷ xs) j d)) where
  pub first_place : Good k x
  first_place = let same : k + 0 ≡ k = omega arith in rw same at (each 0 (omega arith))

  pub later_places : (m : ℕ) → m ≡ k + 1 → (j : ℕ) → j < length xs → Good (m + j) (get_or xs j d)
  later_places m next j below = let same : m + j ≡ k + suc j = omega arith in rw same (each (suc j) (omega arith))
