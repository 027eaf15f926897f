-- Yao's scheme with point and permute: for each gate a row for each choice of colours, in the order of colours, closed with the gate's number besides its
-- keys. Assumes nothing.
use Rattle.std.specs.Prelude.{ℕ, ◌+◌, ◌^◌, Bool, List, [], ◌∷◌, length, slice_index_or}
use mathlib.Core.List.{zip_with}
use Rattle.circuit.specs.Circuit.{Circuit, wire_count, no_gate, at}
use Rattle.circuit.specs.Numbers.{binary, bits}
use Rattle.circuit.specs.declared.gates.Gate.{Gate}
use Rattle.scheme.specs.Coins.{colour}
use Rattle.scheme.specs.Garbling.{Key, key, Row, Scheme, tabulate}
use Rattle.scheme.specs.Opening.{Tweak, evaluate_by}
use Rattle.scheme.specs.Terms.{secret}

abbrev pub gate_at : Circuit → ℕ → Gate
gate_at c k = slice_index_or c.gates k no_gate

-- colours of some wires' keys from their values, or the values from the colours: each is turned over where the wire's coin is 1
abbrev pub turned : (coin : ℕ → Bool) → List ℕ → List Bool → List Bool
turned coin ws bs = zip_with (λ w b. colour (coin w) b) ws bs

-- a row of gate k for keys of some colours, which holds the key of colour b of the gate's own wire
abbrev pub row_of : Tweak → Circuit → ℕ → List Bool → Bool → Row
row_of tweak c k cs b = record { keys = zip_with key (gate_at c k).wires cs; tweak = tweak k cs; holds = key (c.inputs + k) b }

-- for each gate a row for each choice of colours: `order` says which colours belong to a place, `held` the colour of the key that their row holds
abbrev pub tables_holding : Tweak → Circuit → (order : ℕ → ℕ → List Bool) → (held : ℕ → List Bool → Bool) → List (List Row)
tables_holding tweak c order held =
    tabulate (length c.gates) (λ k. tabulate (2 ^ length (gate_at c k).wires) (λ p. row_of tweak c k (order k p) (held k (order k p))))

-- the colour of the key that belongs into a row: that of what the gate gives for the values that the row's colours mean
abbrev pub held_for : Circuit → (coin : ℕ → Bool) → ℕ → List Bool → Bool
held_for c coin k cs = colour (coin (c.inputs + k)) (at (gate_at c k).gives (binary (turned coin (gate_at c k).wires cs)))

-- the colours that open the row at place p of a gate's table
abbrev pub Order : Type 0
Order = (coin : ℕ → Bool) → Gate → (p : ℕ) → List Bool

abbrev pub tables_by : Order → Tweak → Circuit → (coin : ℕ → Bool) → List (List Row)
tables_by order tweak c coin = tables_holding tweak c (λ k. order coin (gate_at c k)) (held_for c coin)

-- the scheme by four decisions: the coin that a wire goes by, the order of rows, what closes them besides their keys, and the wires whose meanings are sent
abbrev pub yao_by : (coin : List Bool → ℕ → Bool) → Order → Tweak → (decoded : Circuit → List ℕ) → Scheme Key
yao_by coin order tweak decoded =
    record {
      coins = wire_count;
      coin = λ c coins. coin coins;
      key_block = λ c coins k. secret k;
      tables = λ c coins. tables_by order tweak c (coin coins);
      decoded = decoded;
      evaluate = evaluate_by tweak;
    }

-- rows stand in the order of their keys' colours: those are the bits of the place
abbrev pub by_colour : Order
by_colour coin g p = bits (length g.wires) p

-- a row is closed with its gate's number and the number that its keys' colours write, which in the order of colours is its place
abbrev pub numbered : Tweak
numbered k cs = k ∷ binary cs ∷ []

-- only outputs have meanings
abbrev pub outputs_only : Circuit → List ℕ
outputs_only c = c.outputs

-- each wire goes by a coin of its own
abbrev pub yao : Scheme Key
yao = yao_by at by_colour numbered outputs_only
