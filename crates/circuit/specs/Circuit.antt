-- A boolean circuit, when it is well-formed, and what it computes. Assumes nothing.
use Rattle.std.specs.Prelude.{◌≡◌, ℕ, ◌+◌, ◌<◌, ◌≤◌, Bool, false, List, [], ◌∷◌, ◌++◌, map, length, take, slice_index, slice_index_or}
use Rattle.circuit.specs.Numbers.{binary}
use Rattle.circuit.specs.declared.gates.Gate.{Gate}

-- wires are numbered from 0: the inputs first, of which the first are the opener's, then one for each gate
pub record Circuit : Type 0 where
  pub inputs : ℕ
  pub opener : ℕ
  pub gates : List Gate
  pub outputs : List ℕ

abbrev pub wire_count : Circuit → ℕ
wire_count c = c.inputs + length c.gates

abbrev pub Below : ℕ → List ℕ → Type 0
Below n ws = (k : ℕ) → k < length ws → slice_index ws k < n

-- two wires that are made already, and what the gate gives for 0 0, 0 1, 1 0, 1 1
abbrev pub GoodGate : ℕ → Gate → Type 0
GoodGate made g = (length g.wires ≡ 2) × (slice_index g.wires 0 < made) × (slice_index g.wires 1 < made) × (length g.gives ≡ 4)

abbrev pub no_gate : Gate
no_gate = record { wires = []; gives = [] }

abbrev pub GoodGates : ℕ → List Gate → Type 0
GoodGates made gs = (k : ℕ) → k < length gs → GoodGate (made + k) (slice_index_or gs k no_gate)

abbrev pub most_inputs : ℕ
most_inputs = 1024

abbrev pub most_gates : ℕ
most_gates = 65536

abbrev pub most_outputs : ℕ
most_outputs = 1024

abbrev pub WellFormed : Circuit → Type 0
WellFormed c =
    (c.inputs ≤ most_inputs) × (c.opener ≤ c.inputs) × (length c.gates ≤ most_gates) × (length c.outputs ≤ most_outputs)
    × GoodGates c.inputs c.gates × Below (wire_count c) c.outputs

abbrev pub at : List Bool → ℕ → Bool
at vs w = slice_index_or vs w false

-- the values of some wires
abbrev pub at_all : List Bool → List ℕ → List Bool
at_all vs ws = map (at vs) ws

-- the values of a gate's wires choose from its truth table
abbrev pub gate_value : Gate → List Bool → Bool
gate_value g vs = at g.gives (binary (at_all vs g.wires))

-- a value more for each gate, after those of the wires so far
unfoldable pub extended : List Gate → List Bool → List Bool
extended [] vs = vs
extended (g ∷ gs) vs = extended gs (vs ++ (gate_value g vs ∷ []))

-- the values of all wires, from those of the inputs
abbrev pub values : Circuit → List Bool → List Bool
values c xs = extended c.gates xs

abbrev pub result : Circuit → List Bool → List Bool
result c xs = at_all (values c xs) c.outputs

-- values of all wires that agree with the inputs and with every gate
pub record Assignment (c : Circuit) (xs vs : List Bool) : Type 0 where
  pub size : length vs ≡ wire_count c
  pub inputs : take c.inputs vs ≡ xs
  pub gates : (k : ℕ) → k < length c.gates → at vs (c.inputs + k) ≡ gate_value (slice_index_or c.gates k no_gate) vs

-- and there are no others
pub record OneAssignment (c : Circuit) (xs vs : List Bool) : Type 0 where
  pub agrees : Assignment c xs vs
  pub alone : (us : List Bool) → Assignment c xs us → us ≡ vs
