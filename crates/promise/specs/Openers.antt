-- An opener that may ask the hash, and the premise about it. Assumes nothing.
use Rattle.std.specs.Prelude.{ℕ, Bool, List, [], ◌∷◌}
use Rattle.std.specs.List.{AllByRecursion}
use Rattle.circuit.specs.Circuit.{Circuit}
use Rattle.garble.specs.Garbled.{TextHash}
use Rattle.keys.specs.declared.wires.WireKeys.{WireKeys}
use Rattle.promise.specs.Exchange.{ClosedText}

-- it concludes something, or asks for the hash of a text and goes on by the answer
pub data Opener : Type 0 where
  concludes : Bool → Opener
  asks : (text : List ℕ) → (List ℕ → Opener) → Opener

unfoldable pub conclusion : TextHash → Opener → Bool
conclusion h (concludes b) = b
conclusion h (asks t next) = conclusion h (next (h t))

-- the texts that it asks for
unfoldable pub asked : TextHash → Opener → List (List ℕ)
asked h (concludes b) = []
asked h (asks t next) = t ∷ asked h (next (h t))

-- THE PREMISE on the hash: an opener never asks for the text of a row of which it cannot derive every key (it would have to guess 127 bits); and
-- SHA-256, cut to sixteen bytes, is to it as good as a function drawn at random. The first is this definition; the second is why the theorem counts pairs of drawn
-- bytes and a function.
abbrev pub NeverAsks : Circuit → List Bool → List WireKeys → TextHash → Opener → Type 0
NeverAsks c xs ws h o = AllByRecursion (λ t. ClosedText c xs ws t → ⊥) (asked h o)
