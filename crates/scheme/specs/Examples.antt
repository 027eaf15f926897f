-- Worked examples. Assumes nothing.
use Rattle.std.specs.Prelude.{◌≡◌, ℕ, ◌<◌, Bool, true, false, List, [], ◌∷◌, map, length}
use Rattle.std.specs.List.{AllByRecursion}
use Rattle.circuit.specs.Circuit.{Circuit, at_all, result}
use Rattle.circuit.specs.Numbers.{bits}
use Rattle.scheme.specs.Coins.{coins_of_pair}
use Rattle.scheme.specs.Garbling.{Key, key, Seen, opened, closed, seen_at, view}
use Rattle.scheme.specs.Yao.{gate_at, yao}

-- a run, what is seen of it, and its result
pub record Example : Type 0 where
  pub circuit : Circuit
  pub inputs : List Bool
  pub coins : List Bool
  -- the colours of the inputs' keys, the rows, and the meanings
  pub colours : List Bool
  pub rows : List (List Seen)
  pub meanings : List Bool
  pub result : List Bool

abbrev pub Works : Example → Type 0
Works e =
    (map (λ (k : Key). k.colour) (view yao e.circuit e.inputs e.coins).keys ≡ e.colours) × ((view yao e.circuit e.inputs e.coins).rows ≡ e.rows)
    × ((view yao e.circuit e.inputs e.coins).meanings ≡ e.meanings) × (result e.circuit e.inputs ≡ e.result)

-- one gate, and
abbrev pub conjunction : Circuit
conjunction = record { inputs = 2; opener = 0; gates = record { wires = 0 ∷ 1 ∷ []; gives = bits 4 0b0001 } ∷ []; outputs = 2 ∷ [] }

-- no gate
abbrev pub crossing : Circuit
crossing = record { inputs = 2; opener = 1; gates = []; outputs = 1 ∷ 0 ∷ 1 ∷ [] }

-- one gate that takes one wire twice
abbrev pub doubled : Circuit
doubled = record { inputs = 1; opener = 0; gates = record { wires = 0 ∷ 0 ∷ []; gives = bits 4 0b0001 } ∷ []; outputs = 1 ∷ [] }

abbrev pub examples : List Example
examples =
    -- row 1 1 opens to colour 1
    record {
      circuit = conjunction;
      inputs = bits 2 0b11;
      coins = bits 3 0b000;
      colours = bits 2 0b11;
      rows = (closed ∷ closed ∷ closed ∷ opened (key 2 true) ∷ []) ∷ [];
      meanings = bits 1 0;
      result = bits 1 1;
    }
    -- with other coins row 0 1 opens to colour 0, for the same result
    ∷ record {
      circuit = conjunction;
      inputs = bits 2 0b11;
      coins = bits 3 0b101;
      colours = bits 2 0b01;
      rows = (closed ∷ opened (key 2 false) ∷ closed ∷ closed ∷ []) ∷ [];
      meanings = bits 1 1;
      result = bits 1 1;
    }
    -- two inputs with one result and paired coins: row 1 0 opens to colour 0 in both
    ∷ record {
      circuit = conjunction;
      inputs = bits 2 0b10;
      coins = bits 3 0b000;
      colours = bits 2 0b10;
      rows = (closed ∷ closed ∷ opened (key 2 false) ∷ closed ∷ []) ∷ [];
      meanings = bits 1 0;
      result = bits 1 0;
    }
    ∷ record {
      circuit = conjunction;
      inputs = bits 2 0b01;
      coins = bits 3 0b110;
      colours = bits 2 0b10;
      rows = (closed ∷ closed ∷ opened (key 2 false) ∷ closed ∷ []) ∷ [];
      meanings = bits 1 0;
      result = bits 1 0;
    }
    -- no gate: outputs are inputs
    ∷ record {
      circuit = crossing;
      inputs = bits 2 0b01;
      coins = bits 2 0b10;
      colours = bits 2 0b11;
      rows = [];
      meanings = bits 3 0b010;
      result = bits 3 0b101;
    }
    -- the same wire twice: rows 0 1 and 1 0 stay closed
    ∷ record {
      circuit = doubled;
      inputs = bits 1 0;
      coins = bits 2 0b01;
      colours = bits 1 0;
      rows = (opened (key 1 true) ∷ closed ∷ closed ∷ closed ∷ []) ∷ [];
      meanings = bits 1 1;
      result = bits 1 0;
    }
    ∷ record {
      circuit = doubled;
      inputs = bits 1 1;
      coins = bits 2 0b01;
      colours = bits 1 1;
      rows = (closed ∷ closed ∷ closed ∷ opened (key 1 false) ∷ []) ∷ [];
      meanings = bits 1 1;
      result = bits 1 1;
    }
    ∷ []

pub record WorkedExamples : Type 0 where
  pub work : AllByRecursion Works examples
  -- the coins of the two inputs with one result are paired
  pub paired : coins_of_pair conjunction (bits 2 0b10) (bits 2 0b01) (bits 3 0b000) ≡ bits 3 0b110
  -- without gates the result is some of the inputs
  pub no_gates : (c : Circuit) → c.gates ≡ [] → (xs : List Bool) → result c xs ≡ at_all xs c.outputs
  -- where a gate takes one wire twice, rows 0 1 and 1 0 never open
  pub never_open : (c : Circuit) (k w : ℕ) → k < length c.gates → (gate_at c k).wires ≡ w ∷ w ∷ [] → (xs coins : List Bool) (s : Seen) →
      (seen_at (view yao c xs coins) k 0b01 s ≡ closed) × (seen_at (view yao c xs coins) k 0b10 s ≡ closed)
