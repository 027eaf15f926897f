-- One part after another: what follows from how each came out. Assumes nothing.
use Rattle.std.proofs.Common.{◌≡◌, ℕ, Bool, true, false, cond, Ok, Err, refl, ap, arith}
use Rattle.circuit.specs.Refusals.{Answer, ◌and_then◌}

pub no_answer : {X P : Type 0} {n : ℕ} {x : X} → ◌≡◌ {A = Answer X} (Err n) (Ok x) → P
no_answer e = absurd (let z : ◌≡◌ {A = ℕ} 0 1 = cc in omega arith)

pub then_is : {X Y : Type 0} {x : X} {r : Answer X} (f : X → Answer Y) → r ≡ Ok x → (r and_then f) ≡ f x
then_is f e = ap (λ r. r and_then f) e

pub then_err : {X Y : Type 0} {n : ℕ} {r : Answer X} (f : X → Answer Y) → r ≡ Err n → (r and_then f) ≡ Err n
then_err f e = ap (λ r. r and_then f) e

pub then_ok : {X Y P : Type 0} {y : Y} (r : Answer X) (f : X → Answer Y) → (r and_then f) ≡ Ok y → ((x : X) → r ≡ Ok x → f x ≡ Ok y → P) → P
then_ok (Ok x) f e go = go x refl e
then_ok (Err n) f e go = no_answer e

pub cond_ok : {X : Type 0} {y : X} (b : Bool) (r : Answer X) (n : ℕ) → cond b r (Err n) ≡ Ok y → (b ≡ true) × (r ≡ Ok y)
cond_ok true r n e = (refl, e)
cond_ok false r n e = no_answer e
