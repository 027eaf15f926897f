use Rattle.circuit.specs.Kept.{ReadsAs}
use Rattle.circuit.proofs.Many.{Reached}
use Rattle.circuit.proofs.reading.skip_parts.Given as goal

abbrev pub invariant-loop-i : goal.invariant-loop-i
invariant-loop-i g l = (one : _) → ReadsAs (goal.F-post g l.read) one → Reached one l.end l.first l.text l.i l.rest
