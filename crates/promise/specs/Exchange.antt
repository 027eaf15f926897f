-- The exchange of a hash: at the texts of rows it gives what the rows need to hold other keys. Assumes nothing.
use Rattle.std.specs.Prelude.{◌≡◌, ℕ, ◌-◌, ◌^◌, ◌<◌, Bool, true, false, cond, ◌&&◌, List, [], ◌∷◌, map, length, take, drop, Ok, Err, ◌==◌, nat_lt, slice_index}
use mathlib.Core.List.{Memᴰ}
use Rattle.std.specs.Int.Digits.{number_from_digits}
use Rattle.circuit.specs.Circuit.{Circuit, at}
use Rattle.circuit.specs.Refusals.{Answer}
use Rattle.garble.specs.Garbled.{TextHash}
use Rattle.keys.specs.Drawing.{key_of, coins_of}
use Rattle.keys.specs.declared.wires.WireKeys.{WireKeys}
use Rattle.scheme.specs.Bytes.{xor_bytes}
use Rattle.scheme.specs.Garbling.{Key, Row}
use Rattle.scheme.specs.Promises.{Known}
use Rattle.scheme.specs.Yao.{gate_at, row_of, held_for, by_colour, numbered, yao}
use Rattle.sha256.specs.Pads.{row_text}

-- row p of gate k, as the scheme has it
abbrev pub row_at : Circuit → List Bool → ℕ → ℕ → Row
row_at c coins k p = row_of numbered c k (by_colour (at coins) (gate_at c k) p) (held_for c (at coins) k (by_colour (at coins) (gate_at c k) p))

-- how many rows a gate has
abbrev pub row_count : Circuit → ℕ → ℕ
row_count c k = 2 ^ length (gate_at c k).wires

-- the gate and the place that a text ends in
abbrev pub gate_in : List ℕ → ℕ
gate_in t = number_from_digits 256 (take 4 (drop (length t - 5) t))

abbrev pub place_in : List ℕ → ℕ
place_in t = slice_index t (length t - 1)

unfoldable pub same : List ℕ → List ℕ → Bool
same [] [] = true
same [] (y ∷ ys) = false
same (x ∷ xs) [] = false
same (x ∷ xs) (y ∷ ys) = x == y && same xs ys

module _ (c : Circuit) where
  module _ (ws : List WireKeys) where
    -- the text that is hashed for a row's pad, and the key in the row
    abbrev pub text_at : ℕ → ℕ → List ℕ
    text_at k p = row_text (map (key_of ws) (row_at c (coins_of ws) k p).keys) (slice_index (row_at c (coins_of ws) k p).tweak 0) (slice_index (row_at c (coins_of ws) k p).tweak 1)

    abbrev pub held_at : ℕ → ℕ → List ℕ
    held_at k p = key_of ws (row_at c (coins_of ws) k p).holds

  -- a text is that of a row
  abbrev pub closes : List WireKeys → List ℕ → Bool
  closes ws t = nat_lt (gate_in t) (length c.gates) && nat_lt (place_in t) (row_count c (gate_in t)) && same t (text_at ws (gate_in t) (place_in t))

  -- what rows hold, by their gate and place
  abbrev pub Held : Type 0
  Held = ℕ → ℕ → List ℕ

  -- at the text of a row: what turns the key that one run has there into the key that the other has
  abbrev pub exchanged : List WireKeys → (before after : Held) → TextHash → TextHash
  exchanged ws before after h t = cond (closes ws t) (xor_bytes (h t) (xor_bytes (before (gate_in t) (place_in t)) (after (gate_in t) (place_in t)))) (h t)

  -- where no keys can be drawn it stays
  abbrev pub exchanged_by : (before after : List WireKeys → Held) → TextHash → Answer (List WireKeys) → TextHash
  exchanged_by before after h (Ok ws) = exchanged ws (before ws) (after ws) h
  exchanged_by before after h (Err n) = h

  -- the text of a row of which one key, at least, cannot be derived
  pub record ClosedText (xs : List Bool) (ws : List WireKeys) (t : List ℕ) : Type 0 where
    pub gate : ℕ
    pub place : ℕ
    pub gate_within : gate < length c.gates
    pub place_within : place < row_count c gate
    pub is : t ≡ text_at ws gate place
    pub missing : Key
    pub of_row : Memᴰ missing (row_at c (coins_of ws) gate place).keys
    pub unknown : Known yao c xs (coins_of ws) missing → ⊥
