-- Pads: what the rows of garbled tables are xored with. Assumes nothing.
use Rattle.std.specs.Prelude.{ℕ, List, [], ◌∷◌, ◌++◌, take}
use mathlib.Core.List.{flatten}
use Rattle.circuit.specs.Numbers.{digits}
use Rattle.sha256.specs.Hash.{sha256}

-- the text of a row's pad: the keys that open the row, its gate's number in four bytes, its place in one
abbrev pub row_text : (keys : List (List ℕ)) → (gate place : ℕ) → List ℕ
row_text keys gate place = flatten keys ++ (digits 256 4 gate ++ (place ∷ []))

-- the first sixteen bytes of a text's digest
abbrev pub pad : List ℕ → List ℕ
pad text = take 16 (sha256 text)
