-- A coin (permute bit) for each wire, colours (point-and-permute bits), and how the coins of two inputs are paired. Assumes nothing.
use Rattle.std.specs.Prelude.{◌≡◌, ℕ, ◌<◌, Bool, true, false, not, List, map, length}
use Rattle.std.specs.List.{range_with_len}
use Rattle.circuit.specs.Circuit.{Circuit, wire_count, at, values}

-- exclusive or
infixl 40 ◌⊕◌
abbrev pub ◌⊕◌ : Bool → Bool → Bool
false ⊕ b = b
true ⊕ b = not b

-- the colour of a value's key: the value, turned over if the coin is 1
abbrev pub colour : Bool → Bool → Bool
colour coin value = coin ⊕ value

-- the colour of the key that an opener holds of a wire
abbrev pub active_colour : Circuit → List Bool → List Bool → ℕ → Bool
active_colour c xs coins w = colour (at coins w) (at (values c xs) w)

-- the colours of all wires under some coins; and as well the coins under which they have some colours
abbrev pub colours_of : List Bool → List Bool → List Bool
colours_of coins vs = map (λ w. colour (at coins w) (at vs w)) (range_with_len 0 (length coins))

-- the coins that give the values `after` the colours that the values `before` have under coins
abbrev pub paired_by : List Bool → List Bool → List Bool → List Bool
paired_by coins before after = map (λ w. at coins w ⊕ at before w ⊕ at after w) (range_with_len 0 (length coins))

abbrev pub coins_of_pair : Circuit → List Bool → List Bool → List Bool → List Bool
coins_of_pair c xs ys coins = paired_by coins (values c xs) (values c ys)

-- what pairing is for
pub record Paired (c : Circuit) (xs ys coins paired : List Bool) : Type 0 where
  pub size : length paired ≡ wire_count c
  -- every wire keeps its active colour
  pub colours : (w : ℕ) → w < wire_count c → active_colour c ys paired w ≡ active_colour c xs coins w
  -- it can be undone, so it is one to one
  pub back : coins_of_pair c ys xs paired ≡ coins
  -- a wire whose value is the same keeps its coin
  pub kept : (w : ℕ) → w < wire_count c → at (values c xs) w ≡ at (values c ys) w → at paired w ≡ at coins w
  -- and so does an input that is the same
  pub inputs : (w : ℕ) → w < c.inputs → at xs w ≡ at ys w → at paired w ≡ at coins w
