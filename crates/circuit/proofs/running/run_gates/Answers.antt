use Rattle.std.proofs.Common.{◌≡◌, [], ◌∷◌, get_or, vec_items, refl, ap, ◌∙◌, rules}
use Rattle.std.proofs.lemmas.Slice.{pushed}
use Rattle.circuit.specs.Circuit.{gate_value, no_gate}
use Rattle.circuit.proofs.Values.{extended_more, extended_all}
use Rattle.circuit.proofs.running.run_gates.Goals as goal

pub loop-g-preserved : goal.loop-g-preserved
loop-g-preserved c =
    let known = vec_items c.loop-g.known in
    let gate = get_or c.args.gates.now c.loop-g.g-index no_gate in
    let value : c.gate_value-value.result ≡ gate_value gate known = c.gate_value-value.ensures ∙ ap (gate_value gate) c.deref.ensures.value in (
      search rules,
      extended_more c.args.gates.now known c.loop-g.g-index c.loop-g-test.true c.loop-g.invariant.1
          (rw value at (pushed (c.gate_value-value.result ∷ []) refl c.in_ok-push.was c.push.ensures.items)),
    )

pub returns : goal.returns
returns c = extended_all c.args.gates.now (vec_items c.loop-g.known) c.loop-g.g-index c.loop-g-test.false c.loop-g.invariant.1
