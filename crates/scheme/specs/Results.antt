-- Where two results differ. Assumes nothing.
use Rattle.std.specs.Prelude.{◌≡◌, ℕ, ◌+◌, ◌<◌, Bool, cond, List, [], ◌∷◌, length, Some, None, Option}
use Rattle.circuit.specs.Circuit.{at}
use Rattle.scheme.specs.Coins.{◌⊕◌}

-- the place of the first difference, counted from k
unfoldable pub first_differing : ℕ → List Bool → List Bool → Option ℕ
first_differing k [] ys = None
first_differing k (x ∷ xs) [] = None
first_differing k (x ∷ xs) (y ∷ ys) = cond (x ⊕ y) (Some k) (first_differing (k + 1) xs ys)

-- k is the first place at which two results differ
pub record Differs (r s : List Bool) (k : ℕ) : Type 0 where
  pub within : k < length r
  pub here : at r k ≡ at s k → ⊥
  pub before : (j : ℕ) → j < k → at r j ≡ at s j
