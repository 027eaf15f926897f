-- What the calls on sheets promise of their answers. Assumes nothing.
use Rattle.std.specs.Prelude.{◌≡◌, ℕ, Bool, List, IfOk, Ok, vec_items, Result, Vec}
use Rattle.std.specs.declared.alloc.AllocError.{AllocError}
use Rattle.std.specs.declared.alloc.Global.{Global}
use Rattle.circuit.specs.Circuit.{Circuit, WellFormed, at_all, OneAssignment}
use Rattle.circuit.specs.Format.{encode, parse}
use Rattle.circuit.specs.Meaning.{circuit_of, values_for, result_for}
use Rattle.circuit.specs.Refusals.{Answers}
use Rattle.circuit.specs.declared.refusals.Failure.{Failure}
use Rattle.circuit.specs.declared.sheets.Sheet.{Sheet}

-- what a text is accepted as is well-formed, and the text is the one that writes it
pub record Accepts (text : List ℕ) : Type 0 where
  pub well_formed : (c : Circuit) → parse text ≡ Ok c → WellFormed c
  pub one_text : (c : Circuit) → parse text ≡ Ok c → encode c ≡ text

-- a sheet read from a text
pub record Reads (text : List ℕ) (r : Result Sheet Failure) : Type 0 where
  -- it is what the text means, or the number of its first fault
  pub parsed : Answers circuit_of r (parse text)
  pub laws : Accepts text

-- the text of a sheet
pub record Writes (s : Sheet) (r : Result (Vec ℕ Global) AllocError) : Type 0 where
  pub bytes : IfOk r (λ v. vec_items v ≡ encode (circuit_of s))
  -- which is read as that sheet
  pub read_back : parse (encode (circuit_of s)) ≡ Ok (circuit_of s)

-- the values of all wires
pub record Evaluates (s : Sheet) (xs : List Bool) (r : Result (Vec Bool Global) Failure) : Type 0 where
  pub values : Answers vec_items r (values_for (circuit_of s) xs)
  -- they agree with the inputs and with every gate, and no others do
  pub meaning : IfOk r (λ v. OneAssignment (circuit_of s) xs (vec_items v))

-- the values of the outputs
pub record Runs (s : Sheet) (xs : List Bool) (r : Result (Vec Bool Global) Failure) : Type 0 where
  pub result : Answers vec_items r (result_for (circuit_of s) xs)
  -- they are those that the one assignment gives them
  pub meaning : IfOk r (λ v. (vs : List Bool) × OneAssignment (circuit_of s) xs vs × (vec_items v ≡ at_all vs (circuit_of s).outputs))
