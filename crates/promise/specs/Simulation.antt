-- A simulator on bytes. It knows the circuit and the result, and draws as a maker does; but the coin that it draws for a wire it takes for the colour of the key that is held,
-- and it puts that key into all rows of the wire's gate. Assumes nothing.
use Rattle.std.specs.Prelude.{ℕ, ◌+◌, Bool, List, [], map, take, drop, Ok}
use mathlib.Core.List.{zip_with}
use Rattle.circuit.specs.Circuit.{Circuit, wire_count, at, at_all, values}
use Rattle.circuit.specs.Refusals.{Answer, ◌and_then◌}
use Rattle.garble.specs.Formats.{tables_file, meanings_file}
use Rattle.garble.specs.Garbled.{TextHash, closed_row}
use Rattle.keys.specs.Drawing.{drawn, key_of, coins_of}
use Rattle.keys.specs.Files.{keys_file}
use Rattle.keys.specs.declared.wires.WireKeys.{WireKeys}
use Rattle.scheme.specs.Coins.{◌⊕◌}
use Rattle.scheme.specs.Garbling.{key, tabulate}
use Rattle.scheme.specs.Simulation.{fake_tables}
use Rattle.promise.specs.Exchange.{Held, held_at, exchanged_by}
use Rattle.promise.specs.Pairing.{recoined, recoined_wires}
use Rattle.promise.specs.Received.{Received}

module _ (c : Circuit) where
  -- the key that is held of a wire
  abbrev pub held_key : List WireKeys → ℕ → List ℕ
  held_key ws w = key_of ws (key w (at (coins_of ws) w))

  -- what the rows hold
  abbrev pub fake_held : List WireKeys → Held c
  fake_held ws k p = held_key ws (c.inputs + k)

  abbrev pub simulated_files : TextHash → (result : List Bool) → List WireKeys → Received
  simulated_files h r ws =
      record {
        openers = keys_file (take c.opener (tabulate c.inputs (held_key ws)));
        makers = keys_file (drop c.opener (tabulate c.inputs (held_key ws)));
        tables = tables_file 0 (map (map (closed_row h ws)) (fake_tables c (coins_of ws)));
        meanings = meanings_file (zip_with ◌⊕◌ (at_all (coins_of ws) c.outputs) r);
      }

  abbrev pub simulated : TextHash → (result : List Bool) → (tape : List ℕ) → Answer Received
  simulated h r tape = drawn (wire_count c) tape and_then λ ws. Ok (simulated_files h r ws)

  module _ (xs : List Bool) where
    -- for each input a maker's bytes and the simulator's are paired: the coins of wires whose value is 1 are turned over; so are the simulator's, to come back
    abbrev pub tape_for : List ℕ → List ℕ
    tape_for bytes = recoined (values c xs) [] bytes

    abbrev pub tape_wires : List WireKeys → List WireKeys
    tape_wires ws = recoined_wires (values c xs) ws

    -- and so are their hashes
    abbrev pub simulated_hash : List ℕ → TextHash → TextHash
    simulated_hash bytes h = exchanged_by c (held_at c) (λ ws. fake_held (tape_wires ws)) h (drawn (wire_count c) bytes)

    abbrev pub maker's_hash : List ℕ → TextHash → TextHash
    maker's_hash tape h = exchanged_by c fake_held (λ ws. held_at c (tape_wires ws)) h (drawn (wire_count c) tape)
