-- Rounds along lists of constants and words, and the hash value of what is left of a text. Assumes nothing.
use Rattle.std.specs.Prelude.{ℕ, ◌/◌, List, ◌++◌, length, fold, zip}
use Rattle.sha256.specs.Hash.{round, blocks, padding}

-- a round, with its constant and its word of the schedule
abbrev pub step : List ℕ → ℕ × ℕ → List ℕ
step s p = round s p.0 p.1

-- a round for each of some constants, with as many words
abbrev pub steps : List ℕ → List ℕ × List ℕ → List ℕ
steps s p = fold step s (zip p.0 p.1)

-- the hash value of a text of n bytes, from the one before what is left of the text
abbrev pub value_from : ℕ → List ℕ → List ℕ → List ℕ
value_from n h rest = blocks (length (rest ++ padding n) / 64) h (rest ++ padding n)
