-- Schemes that come near: each decides one thing otherwise, and breaks a promise; and each promise is broken by one of them. Assumes nothing.
use Rattle.std.specs.Prelude.{◌≡◌, ℕ, ◌+◌, ◌<◌, ◌≤◌, Bool, false, List, [], ◌∷◌, ◌++◌, length}
use Rattle.std.specs.List.{range_with_len}
use Rattle.circuit.specs.Circuit.{Circuit, at, at_all, values}
use Rattle.circuit.specs.Numbers.{binary, bits}
use Rattle.scheme.specs.Coins.{colour}
use Rattle.scheme.specs.Garbling.{Key, key, Scheme, blocks, Seen, opened, seen_at, meanings, sent, active, view}
use Rattle.scheme.specs.Opening.{Tweak}
use Rattle.scheme.specs.Promises.{Fits, Right, OneKeyOf, OneKey, SeenByDerivation, HidesInputs}
use Rattle.scheme.specs.Terms.{block, secret, xor, pad, tweak, ◌then◌, ◌≈◌, Recipe, run, StaticallyEquivalent}
use Rattle.scheme.specs.Yao.{gate_at, Order, turned, by_colour, numbered, yao_by, outputs_only}

-- without coins: a key's colour is its value
abbrev pub without_coins : Scheme Key
without_coins = yao_by (λ coins w. false) by_colour numbered outputs_only

-- rows in the order of values: a place's own bits are the values of the keys that open its row
abbrev pub by_value : Order
by_value coin g p = turned coin g.wires (bits (length g.wires) p)

abbrev pub rows_by_value : Scheme Key
rows_by_value = yao_by at by_value numbered outputs_only

-- rows closed without the gate's number
abbrev pub unnumbered : Tweak
unnumbered k cs = binary cs ∷ []

abbrev pub without_numbers : Scheme Key
without_numbers = yao_by at by_colour unnumbered outputs_only

-- meanings of inner wires: after those of the outputs, all that gates make
abbrev pub with_inner : Circuit → List ℕ
with_inner c = c.outputs ++ range_with_len c.inputs (length c.gates)

abbrev pub with_inner_meanings : Scheme Key
with_inner_meanings = yao_by at by_colour numbered with_inner

-- one input and two gates, the fewest that need numbers (`one_gate`): both take the input twice, and the first gives what it is, the second 0, the output
abbrev pub two_gates : Circuit
two_gates =
    record {
      inputs = 1;
      opener = 0;
      gates = record { wires = 0 ∷ 0 ∷ []; gives = bits 4 0b0001 } ∷ record { wires = 0 ∷ 0 ∷ []; gives = bits 4 0b0000 } ∷ [];
      outputs = 2 ∷ [];
    }

-- What an opener does with it, for input 1 and coins 0, where gates have no numbers. It has the input's key (0), the rows of the first gate (1 to 4) and of the second (5 to 8). The key
-- opens the last row of the second gate, which holds the same key as that gate's first row; so it has the pad of that, which is the pad of the first gate's first
-- row too.
abbrev pub overlaid : Recipe block
overlaid = xor (secret 1) (xor (secret 5) (xor (secret 8) (pad (secret 0 then secret 0 then tweak (3 ∷ [])))))

-- two gates over the same two inputs: and, and 0; both are outputs
abbrev pub same_wires : Circuit
same_wires =
    record {
      inputs = 2;
      opener = 0;
      gates = record { wires = 0 ∷ 1 ∷ []; gives = bits 4 0b0001 } ∷ record { wires = 0 ∷ 1 ∷ []; gives = bits 4 0b0000 } ∷ [];
      outputs = 2 ∷ 3 ∷ [];
    }

pub record NearMisses : Type 0 where
  -- the promises that each breaks
  pub misses_without_coins : HidesInputs without_coins → ⊥
  pub misses_rows_by_value : (Right rows_by_value → ⊥) × (HidesInputs rows_by_value → ⊥)
  pub misses_without_numbers : (OneKey without_numbers → ⊥) × (SeenByDerivation without_numbers → ⊥) × (HidesInputs without_numbers → ⊥)
  pub misses_with_inner_meanings : HidesInputs with_inner_meanings → ⊥
  -- Why: without coins the colour of the key that is held of a wire is the wire's value;
  pub colour_tells : (c : Circuit) (xs coins : List Bool) (w : ℕ) → (active without_coins c xs coins w).colour ≡ at (values c xs) w
  -- by value the row that opens stands at the place that the values of the gate's wires write;
  pub place_tells : (c : Circuit) (xs coins : List Bool) → Fits rows_by_value c xs coins → (k : ℕ) → k < length c.gates → (s : Seen) →
      seen_at (view rows_by_value c xs coins) k (binary (at_all (values c xs) (gate_at c k).wires)) s ≡ opened (active rows_by_value c xs coins (c.inputs + k))
  -- without numbers the key of 0 of the first gate's wire comes out, whose value is 1 (of each wire one key comes out where there are fewer gates than two);
  pub overlay_tells : run (blocks (sent without_numbers two_gates (bits 1 1) (bits 3 0b000))) overlaid ≈ secret (key 1 false)
  pub one_gate : (c : Circuit) → length c.gates ≤ 1 → OneKeyOf without_numbers c
  -- and two inputs of which the same is seen are told apart by a test on what is sent;
  pub test_tells : StaticallyEquivalent (blocks (sent without_numbers same_wires (bits 2 0b10) (bits 4 0b0000))) (blocks (sent without_numbers same_wires (bits 2 0b01) (bits 4 0b1100))) → ⊥
  pub same_seen : view without_numbers same_wires (bits 2 0b10) (bits 4 0b0000) ≡ view without_numbers same_wires (bits 2 0b01) (bits 4 0b1100)
  -- with inner meanings the key that is held of a gate's wire is read as its value.
  pub meanings_tell : (c : Circuit) (xs coins : List Bool) (k : ℕ) → k < length c.gates →
      colour (at (meanings with_inner_meanings c coins) (length c.outputs + k)) (active with_inner_meanings c xs coins (c.inputs + k)).colour ≡ at (values c xs) (c.inputs + k)
  -- What holds all the same: without coins, without numbers and with inner meanings results are right;
  pub right_too : Right without_coins × Right without_numbers × Right with_inner_meanings
  -- without coins, by value and with inner meanings there is one key of each wire, and what is seen is what can be derived.
  pub one_key_too : OneKey without_coins × OneKey rows_by_value × OneKey with_inner_meanings
  pub seen_too : SeenByDerivation without_coins × SeenByDerivation rows_by_value × SeenByDerivation with_inner_meanings
