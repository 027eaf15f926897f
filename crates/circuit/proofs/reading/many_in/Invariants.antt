use Rattle.circuit.specs.Kept.{ReadsAs}
use Rattle.circuit.proofs.Many.{Going}
use Rattle.circuit.proofs.reading.many_in.Given as goal

abbrev pub invariant-loop-i : goal.invariant-loop-i
invariant-loop-i g l = (one : _) → ReadsAs (goal.F-post g l.read) one → Going one l.end l.first l.text l.i l.items l.rest
