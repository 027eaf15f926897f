-- What private readers promise of keys that are not copied yet. No public promise cites it. Assumes nothing.
use Rattle.std.specs.Prelude.{◌≡◌, ℕ, List, Ok, Err, Result}
use Rattle.std.specs.Borrow.{Bor}
use Rattle.circuit.specs.Refusals.{Answer, refuse}
use Rattle.circuit.specs.declared.refusals.Refusal.{Refusal}

-- the keys that are meant, or the refusal
abbrev pub Lent : Result (Bor (List (List ℕ))) Refusal → Answer (List (List ℕ)) → Type 0
Lent (Ok ks) m = m ≡ Ok ks.now
Lent (Err e) m = m ≡ refuse e
