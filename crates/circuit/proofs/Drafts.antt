-- A whole sheet from its parts: how `parse` comes out once its first parts have. Assumes nothing.
use Rattle.std.proofs.Common.{◌≡◌, ℕ, ◌+◌, ◌-◌, ◌<◌, true, false, eqb, List, length, get_or, Ok, Err, sym, ◌∙◌, w8, Fits, arith}
use native.Mathlib.Nat.{sub-zero}
use Rattle.std.proofs.ByRecursion.{All-from_get_or}
use Rattle.circuit.specs.Circuit.{Circuit, most_outputs}
use Rattle.circuit.specs.Format.{head, gate, count, many, wire, outputs, assembled, ended, parse}
use Rattle.circuit.specs.Promises.{Accepts}
use Rattle.circuit.specs.Refusals.{refuse, ◌and_then◌}
use Rattle.circuit.specs.declared.gates.Gate.{Gate}
use Rattle.circuit.specs.declared.reading.Head.{Head}
use Rattle.circuit.specs.declared.refusals.Refusal.TheVariants.{Malformed}
use Rattle.circuit.proofs.AndThen.{then_is, then_err}
use Rattle.circuit.proofs.Accepted.{accepted}

module _ {h : Head} {a b : List ℕ} {gs : List Gate} (text : List ℕ) (made : ℕ) (sum : made ≡ h.inputs + h.gates) (first : Ok (h, a) ≡ head text)
    (second : many gate (made - h.inputs) h.inputs a ≡ Ok (gs, b)) where
  -- what is left are the outputs and the end
  after_gates : parse text ≡ (outputs made b and_then λ o. ended (assembled h gs o.0, o.1))
  after_gates =
      let as_many : made - h.inputs ≡ h.gates = omega arith in
      then_is _ (sym first) ∙ then_is _ (rw as_many at second) ∙ rw (← sum)

  pub count_fault : {e : ℕ} → Err e ≡ count 2 most_outputs b → parse text ≡ Err e
  count_fault fault = after_gates ∙ rw (← fault)

  last : {n : ℕ} {d : List ℕ} → Ok (n, d) ≡ count 2 most_outputs b → parse text ≡ (many (λ _. wire made) (n - 0) 0 d and_then λ o. ended (assembled h gs o.0, o.1))
  last {n} third = after_gates ∙ rw (← third, sub-zero n)

  pub outputs_fault : {e n : ℕ} {d : List ℕ} → Ok (n, d) ≡ count 2 most_outputs b → many (λ _. wire made) (n - 0) 0 d ≡ Err e → parse text ≡ Err e
  outputs_fault third fault = last third ∙ then_err _ fault

  pub left_over : {n : ℕ} {d : List ℕ} (ws rest : List ℕ) → Ok (n, d) ≡ count 2 most_outputs b → many (λ _. wire made) (n - 0) 0 d ≡ Ok (ws, rest) →
      false ≡ eqb (length rest) 0 → parse text ≡ refuse Malformed
  left_over ws rest third outputs more = last third ∙ then_is _ outputs ∙ rw (← more)

  pub all_read : {n : ℕ} {d : List ℕ} (ws rest : List ℕ) → Ok (n, d) ≡ count 2 most_outputs b → many (λ _. wire made) (n - 0) 0 d ≡ Ok (ws, rest) →
      true ≡ eqb (length rest) 0 → parse text ≡ Ok (assembled h gs ws)
  all_read ws rest third outputs none = last third ∙ then_is _ outputs ∙ rw (← none)

-- the laws of a text of bytes
pub laws_of : (text : List ℕ) → ((i : ℕ) → Fits w8 (get_or text i 0)) → Accepts text
laws_of text bytes =
    let law = λ (c : Circuit) (is : parse text ≡ Ok c). accepted text c (All-from_get_or (λ d. d < 256) text 0 (λ i _. (bytes i).fits)) is in
    record { well_formed = λ c is. (law c is).0; one_text = λ c is. (law c is).1 }
