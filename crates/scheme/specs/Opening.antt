-- Opening with colours (point and permute). It takes nothing but what is sent. Assumes nothing.
use Rattle.std.specs.Prelude.{ℕ, ◌+◌, Bool, List, [], ◌∷◌, ◌++◌, map, get_or, drop, slice_index_or}
use mathlib.Core.List.{zip_with}
use Rattle.circuit.specs.Numbers.{binary}
use Rattle.circuit.specs.declared.gates.Gate.{Gate}
use Rattle.scheme.specs.Bytes.{xor_bytes, colour_of, Hash, Evaluation}
use Rattle.scheme.specs.Coins.{colour}

-- the numbers that close a row of gate k besides its keys, whose colours are given
abbrev pub Tweak : Type 0
Tweak = (k : ℕ) → List Bool → List ℕ

-- the colours of the keys that are held of a gate's wires name its row, and the pad is taken off that
abbrev pub open_row : Tweak → Hash → ℕ → (keys rows : List (List ℕ)) → (colours : List Bool) → List ℕ
open_row tweak hash k keys rows cs = xor_bytes (slice_index_or rows (binary cs) []) (hash keys (tweak k cs))

abbrev pub held_at : List (List ℕ) → List ℕ → List (List ℕ)
held_at held ws = map (λ w. get_or held w []) ws

abbrev pub open_gate : Tweak → Hash → ℕ → (keys rows : List (List ℕ)) → List ℕ
open_gate tweak hash k keys rows = open_row tweak hash k keys rows (map colour_of keys)

-- a key more for each gate, from number k on, after those of the wires so far
unfoldable pub open_gates : Tweak → Hash → ℕ → List Gate → (tables : List (List (List ℕ))) → (held : List (List ℕ)) → List (List ℕ)
open_gates tweak hash k [] tables held = held
open_gates tweak hash k (g ∷ gs) tables held =
    open_gates tweak hash (k + 1) gs (drop 1 tables) (held ++ (open_gate tweak hash k (held_at held g.wires) (slice_index_or tables 0 []) ∷ []))

-- an output's value is the colour of its key, turned over if its coin is 1
abbrev pub decode : (meanings : List Bool) → List (List ℕ) → List Bool
decode ms ks = zip_with (λ m k. colour m (colour_of k)) ms ks

abbrev pub evaluate_by : Tweak → Evaluation
evaluate_by tweak hash c keys tables ms = decode ms (held_at (open_gates tweak hash 0 c.gates tables keys) c.outputs)
