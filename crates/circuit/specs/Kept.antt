-- What private readers promise: a rest that is lent, and items unless memory ran out. No public promise cites it. Assumes nothing.
use Rattle.std.specs.Prelude.{◌≡◌, ℕ, List, Some, None, IfOk, Ok, Err, vec_items, Option, Result, Vec}
use Rattle.std.specs.Borrow.{Bor}
use Rattle.std.specs.declared.alloc.AllocError.{AllocError}
use Rattle.circuit.specs.Format.{Part}
use Rattle.circuit.specs.Refusals.{Answer, refuse}
use Rattle.circuit.specs.declared.refusals.Refusal.{Refusal}

-- a value beside a lent rest, as a value and a list
abbrev pub lent_front : {X : Type 0} → Option (X × Bor (List ℕ)) → Option (X × List ℕ)
lent_front None = None
lent_front (Some p) = Some (p.0, p.1.now)

abbrev pub lent : {X : Type 0} → Result (X × Bor (List ℕ)) Refusal → Part X
lent (Ok p) = Ok (p.0, p.1.now)
lent (Err e) = refuse e

abbrev pub lent_rest : Result (Bor (List ℕ)) Refusal → Answer (List ℕ)
lent_rest (Ok p) = Ok p.now
lent_rest (Err e) = refuse e

-- each answer of a reader of parts is what is meant
abbrev pub ReadsAs : {X : Type 0} → (ℕ → Bor (List ℕ) → Result (X × Bor (List ℕ)) Refusal → Type 0) → (ℕ → List ℕ → Part X) → Type 0
ReadsAs {X} post one = (i : ℕ) (xs : Bor (List ℕ)) (r : Result (X × Bor (List ℕ)) Refusal) → post i xs r → lent r ≡ one i xs.now

-- the fault, or the rest
abbrev pub Skipped : {X : Type 0} → Result (Bor (List ℕ)) Refusal → Part (List X) → Type 0
Skipped {X} (Ok rest) m = (xs : List X) × (m ≡ Ok (xs, rest.now))
Skipped (Err e) m = m ≡ refuse e

-- the fault, or the rest and, unless memory ran out, the items
abbrev pub Kept : {X Z : Type 0} → Result (Result (Vec X Z) AllocError × Bor (List ℕ)) Refusal → Part (List X) → Type 0
Kept {X} (Ok p) m = (xs : List X) × (m ≡ Ok (xs, p.1.now)) × IfOk p.0 (λ v. vec_items v ≡ xs)
Kept (Err e) m = m ≡ refuse e
