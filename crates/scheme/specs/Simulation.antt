-- A simulator of Yao's scheme. It draws a colour for each wire and takes the key of that colour as the one held: it sends those of the inputs, and puts that of a
-- gate's wire into all rows of the gate; the meanings turn the outputs' colours into the result. It sees no input. Assumes nothing.
use Rattle.std.specs.Prelude.{◌+◌, Bool, List, map}
use mathlib.Core.List.{zip_with}
use Rattle.circuit.specs.Circuit.{Circuit, at, at_all}
use Rattle.scheme.specs.Coins.{◌⊕◌}
use Rattle.scheme.specs.Garbling.{Key, key, Row, Got, tabulate, look, cipher}
use Rattle.scheme.specs.Terms.{secret}
use Rattle.scheme.specs.Yao.{gate_at, tables_holding, by_colour, numbered}

abbrev pub fake_tables : Circuit → List Bool → List (List Row)
fake_tables c colours = tables_holding numbered c (λ k. by_colour (at colours) (gate_at c k)) (λ k cs. at colours (c.inputs + k))

abbrev pub simulate : Circuit → (colours result : List Bool) → Got Key
simulate c colours result =
    record {
      transcript =
          record {
            keys = tabulate c.inputs (λ w. secret (key w (at colours w)));
            tables = map (map (cipher secret)) (fake_tables c colours);
            meanings = zip_with ◌⊕◌ (at_all colours c.outputs) result;
          };
      view =
          record {
            keys = tabulate c.inputs (λ w. key w (at colours w));
            rows = map (map (look (at colours))) (fake_tables c colours);
            meanings = zip_with ◌⊕◌ (at_all colours c.outputs) result;
          };
      key_block = λ k. secret k;
    }
