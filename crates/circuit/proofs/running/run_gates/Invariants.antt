use Rattle.std.proofs.Common.{◌≡◌, ◌+◌, drop, vec_items, vec_len}
use Rattle.circuit.specs.Circuit.{extended}
use Rattle.circuit.proofs.running.run_gates.Given as goal

abbrev pub invariant-loop-g : goal.invariant-loop-g
invariant-loop-g l =
    (vec_len l.known ≡ vec_len l.initial.known + l.g-index) × (extended (drop l.g-index l.gates) (vec_items l.known) ≡ extended l.gates (vec_items l.initial.known))
