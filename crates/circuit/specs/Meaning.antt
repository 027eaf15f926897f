-- The circuit that a sheet is, and what a run of it means. Assumes nothing.
use Rattle.std.specs.Prelude.{Bool, List, length, Ok, vec_items, ◌==◌}
use Rattle.circuit.specs.Circuit.{Circuit, at_all, values}
use Rattle.circuit.specs.Refusals.{Answer, require, ◌and_then◌}
use Rattle.circuit.specs.declared.refusals.Refusal.TheVariants.{Values}
use Rattle.circuit.specs.declared.sheets.Sheet.{Sheet}

abbrev pub circuit_of : Sheet → Circuit
circuit_of s = record { inputs = s.inputs; opener = s.opener; gates = vec_items s.gates; outputs = vec_items s.outputs }

-- for other than as many values as inputs there is no answer
abbrev pub values_for : Circuit → List Bool → Answer (List Bool)
values_for c xs = require (length xs == c.inputs) Values (Ok (values c xs))

abbrev pub result_for : Circuit → List Bool → Answer (List Bool)
result_for c xs = values_for c xs and_then λ vs. Ok (at_all vs c.outputs)
