use Rattle.std.proofs.Common.{◌≡◌, length, vec_items, ◌∙◌, ap₂, rules}
use Rattle.std.proofs.lemmas.Bool.{eq-eqb}
use Rattle.circuit.specs.Meaning.{circuit_of}
use Rattle.circuit.specs.Circuit.{extended, values}
use Rattle.circuit.proofs.Lawful.{well_formed}
use Rattle.circuit.proofs.Values.{one_assignment}
use Rattle.circuit.proofs.running.all_values.Goals as goal

pub returns : goal.returns
returns c =
    let s = c.args.sheet.now in
    let xs = c.args.inputs.now in
    let as_many : length xs ≡ s.inputs = c.requires in
    let copied : vec_items c.in_ok-known.known ≡ xs = search rules in
    let out : vec_items c.run_gates.new.known ≡ values (circuit_of s) xs = c.in_ok-run_gates.ensures ∙ ap₂ extended c.deref.ensures.value copied in
    record { values = rw (eq-eqb (length xs) s.inputs as_many, out); meaning = rw out (one_assignment (circuit_of s) xs (well_formed s) as_many) }
