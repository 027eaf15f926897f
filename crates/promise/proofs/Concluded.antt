-- An opener that never asks where two hashes differ concludes the same from both. Assumes nothing.
use Rattle.std.proofs.Common.{◌≡◌, ℕ, Bool, ◌⊎◌, List, refl, ap, ◌∙◌, inl, inr}
use Rattle.circuit.specs.Circuit.{Circuit}
use Rattle.garble.specs.Garbled.{TextHash}
use Rattle.keys.specs.declared.wires.WireKeys.{WireKeys}
use Rattle.promise.specs.Exchange.{ClosedText}
use Rattle.promise.specs.Openers.{Opener, concludes, asks, conclusion, asked, NeverAsks}

module _ (c : Circuit) (xs : List Bool) (ws : List WireKeys) (h g : TextHash) (elsewhere : (t : List ℕ) → (g t ≡ h t) ⊎ ClosedText c xs ws t) where
  answered : (t : List ℕ) → (ClosedText c xs ws t → ⊥) → g t ≡ h t
  answered t open' = go (elsewhere t)
    where
      go : (g t ≡ h t) ⊎ ClosedText c xs ws t → g t ≡ h t
      go (inl same) = same
      go (inr closed) = absurd (open' closed)

  pub concluded : (o : Opener) → NeverAsks c xs ws h o → conclusion g o ≡ conclusion h o
  unfolding conclusion asked
  concluded (concludes b) never = refl
  concluded (asks t next) never = ap (λ a. conclusion g (next a)) (answered t never.0) ∙ concluded (next (h t)) never.1
