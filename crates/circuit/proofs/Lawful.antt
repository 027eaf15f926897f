-- What a sheet's own law says of its circuit. Assumes nothing.
use Rattle.std.proofs.Common.{◌≡◌, Ok}
use Rattle.circuit.specs.Circuit.{WellFormed}
use Rattle.circuit.specs.Format.{encode, parse}
use Rattle.circuit.specs.Meaning.{circuit_of}
use Rattle.circuit.specs.declared.sheets.Sheet.{Sheet}
use Rattle.circuit.proofs.Written.{read_back}

pub well_formed : (s : Sheet) → WellFormed (circuit_of s)
well_formed s = (s.few_inputs, s.opener_within, s.few_gates, s.few_outputs, s.gates_good, s.outputs_made)

pub read_back_of : (s : Sheet) → parse (encode (circuit_of s)) ≡ Ok (circuit_of s)
read_back_of s = read_back (circuit_of s) (well_formed s)
