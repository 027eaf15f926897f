use Rattle.std.proofs.Common.{◌≡◌, ℕ, ◌+◌, is_ok, IfOk, List, Ok, vec_items, Result, Vec, refl, ap, rules}
use Rattle.std.proofs.lemmas.Result.{err_from_is_err_and}
use Rattle.circuit.specs.Format.{gate, wire, assembled, parse}
use Rattle.std.specs.declared.alloc.AllocError.{AllocError}
use Rattle.std.specs.declared.alloc.Global.{Global}
use Rattle.circuit.specs.declared.gates.Gate.{Gate}
use Rattle.circuit.specs.declared.reading.Head.{Head}
use Rattle.circuit.proofs.Drafts.{count_fault, outputs_fault, left_over, all_read, laws_of}
use Rattle.circuit.proofs.reading.sheet_in.Goals as goal
use Rattle.circuit.proofs.reading.sheet_in.Goals.{Else-not-is_empty, In_ok-outputs-2}

pub returns-in_err-count : goal.returns-in_err-count
returns-in_err-count c =
    let g = c.in_ok-gates.ensures gate (λ i xs r p. search rules) in
    let q = err_from_is_err_and c.from_residual-in_err-count.result c.from_residual-in_err-count.ensures.1 in
    rw (q.1, q.2) (count_fault c.args.text.now _ refl c.in_ok-head.ensures g.1 c.in_err-count.ensures)

pub returns-in_err-outputs : goal.returns-in_err-outputs
returns-in_err-outputs c =
    let g = c.in_ok-gates.ensures gate (λ i xs r p. search rules) in
    let made = c.in_ok-head.head.inputs + c.in_ok-head.head.gates in
    let q = err_from_is_err_and c.from_residual-in_err-outputs.result c.from_residual-in_err-outputs.ensures.1 in
    rw (q.1, q.2)
    (outputs_fault c.args.text.now made refl c.in_ok-head.ensures g.1 c.in_ok-count.ensures (c.in_err-outputs.ensures (λ _. wire made) (λ i xs r p. search rules)))

pub returns-then-not-is_empty : goal.returns-then-not-is_empty
returns-then-not-is_empty c =
    let g = c.in_ok-gates.ensures gate (λ i xs r p. search rules) in
    let made = c.in_ok-head.head.inputs + c.in_ok-head.head.gates in
    let o = c.in_ok-outputs.ensures (λ _. wire made) (λ i xs r p. search rules) in
    left_over c.args.text.now made refl c.in_ok-head.ensures g.1 o.0 c.in_ok-outputs.rest.now c.in_ok-count.ensures o.1 c.if-not-is_empty.ensures

-- these items, unless memory ran out
abbrev Are : {X Z : Type 0} → Result (Vec X Z) AllocError → List X → Type 0
Are r xs = IfOk r (λ v. vec_items v ≡ xs)

-- a text is a sheet, of which memory held these gates and outputs
abbrev Means : List ℕ → Head → Result (Vec Gate Global) AllocError → Result (Vec ℕ Global) AllocError → Type 0
Means text head gates outputs = (gs : List Gate) × (ws : List ℕ) × (parse text ≡ Ok (assembled head gs ws)) × Are gates gs × Are outputs ws

-- once nothing is left over
read : (c : Else-not-is_empty) → Means c.args.text.now c.in_ok-head.head c.in_ok-gates.gates c.in_ok-outputs.outputs
read c =
    let g = c.in_ok-gates.ensures gate (λ i xs r p. search rules) in
    let made = c.in_ok-head.head.inputs + c.in_ok-head.head.gates in
    let o = c.in_ok-outputs.ensures (λ _. wire made) (λ i xs r p. search rules) in (
      g.0,
      o.0,
      all_read c.args.text.now made refl c.in_ok-head.ensures g.1 o.0 c.in_ok-outputs.rest.now c.in_ok-count.ensures o.1 c.if-not-is_empty.ensures,
      g.2,
      o.2,
    )

pub returns-in_err-gates-2 : goal.returns-in_err-gates-2
returns-in_err-gates-2 c =
    let q = err_from_is_err_and c.from_residual-in_err-gates-2.result c.from_residual-in_err-gates-2.ensures.1 in
    rw (q.1, q.2) (ap is_ok (read (goal.at.returns-in_err-gates-2 c).Else-not-is_empty).2)

pub returns-in_err-outputs-2 : goal.returns-in_err-outputs-2
returns-in_err-outputs-2 c =
    let q = err_from_is_err_and c.from_residual-in_err-outputs-2.result c.from_residual-in_err-outputs-2.ensures.1 in
    rw (q.1, q.2) (ap is_ok (read (goal.at.returns-in_err-outputs-2 c).Else-not-is_empty).2)

held : (c : In_ok-outputs-2) → Means c.args.text.now c.in_ok-head.head c.in_ok-gates.gates c.in_ok-outputs.outputs →
    parse c.args.text.now ≡ Ok (assembled c.in_ok-head.head (vec_items c.in_ok-gates-2.field-0) (vec_items c.in_ok-outputs-2.field-0))
held c (gs, ws, whole, gates, outputs) = rw (rw c.in_ok-gates-2.was at gates, rw c.in_ok-outputs-2.was at outputs) whole

pub invariant_of-result : goal.invariant_of-result
invariant_of-result c =
    let good = (laws_of c.args.text.now c.type_inv.text).well_formed _ (held c (read (goal.at.invariant_of-result c).Else-not-is_empty)) in
    record { few_inputs = good.0; opener_within = good.1; few_gates = good.2; few_outputs = good.3; gates_good = good.4; outputs_made = good.5 }

pub returns : goal.returns
returns c = let v = goal.at.returns c in held v.In_ok-outputs-2 (read v.Else-not-is_empty)
