-- The loops that read one part after the other: their start, a turn, a fault in a part, their end, and where another reader goes on. Assumes nothing.
use Rattle.std.proofs.Common.{◌≡◌, ℕ, suc, ◌+◌, ◌-◌, ◌<◌, ◌≤◌, List, [], ◌∷◌, ◌++◌, Ok, Err, vec_items, Result, Vec, sym, refl, ap, ◌∙◌, append_assoc, arith}
use Rattle.std.specs.Borrow.{Bor}
use Rattle.std.proofs.lemmas.List.{append-nil}
use Rattle.circuit.specs.Format.{Part, many}
use Rattle.circuit.specs.Kept.{Skipped}
use Rattle.circuit.specs.Refusals.{◌and_then◌}
use Rattle.circuit.specs.declared.refusals.Refusal.{Refusal}

-- items in front of those that a reader gives
abbrev after : {X : Type 0} → List X → Part (List X) → Part (List X)
after acc m = m and_then λ q. Ok (acc ++ q.0, q.1)

after_none : {X : Type 0} (m : Part (List X)) → m ≡ after [] m
after_none (Ok q) = refl
after_none (Err n) = refl

after_more : {X : Type 0} (acc : List X) (x : X) (m : Part (List X)) → after acc (m and_then λ q. Ok (x ∷ q.0, q.1)) ≡ after (acc ++ (x ∷ [])) m
after_more acc x (Ok q) = ap (λ l. Ok (l, q.1)) (sym (append_assoc acc (x ∷ []) q.0))
after_more acc x (Err n) = refl

module _ {X : Type 0} (one : ℕ → List ℕ → Part X) (end first : ℕ) (text : List ℕ) where
  -- before part i: what is left gives what the whole gives after some items
  abbrev pub Reached : ℕ → List ℕ → Type 0
  Reached i rest = (acc : List X) × (many one (end - first) first text ≡ after acc (many one (end - i) i rest))

  pub reached_none : Reached first text
  reached_none = ([], after_none (many one (end - first) first text))

  pub reached_more : {ys : List ℕ} {x : X} (i : ℕ) (rest : List ℕ) → i < end → Reached i rest → Ok (x, ys) ≡ one i rest → Reached (i + 1) ys
  unfolding many
  reached_more {ys} {x} i rest below so_far e =
      let left : end - i ≡ suc (end - (i + 1)) = omega arith in
      (so_far.0 ++ (x ∷ []), (rw (left, ← e) at so_far.1) ∙ after_more so_far.0 x (many one (end - (i + 1)) (i + 1) ys))

  pub reached_fault : {e : ℕ} (i : ℕ) (rest : List ℕ) → i < end → Reached i rest → Err e ≡ one i rest → many one (end - first) first text ≡ Err e
  unfolding many
  reached_fault i rest below so_far e =
      let left : end - i ≡ suc (end - (i + 1)) = omega arith in
      rw (left, ← e) at so_far.1

  pub reached_all : (i : ℕ) (rest : List ℕ) → end ≤ i → (so_far : Reached i rest) → many one (end - first) first text ≡ Ok (so_far.0, rest)
  unfolding many
  reached_all i rest done so_far =
      let none : end - i ≡ 0 = omega arith in
      (rw none at so_far.1) ∙ ap (λ l. Ok (l, rest)) (append-nil so_far.0)

  -- where another reader goes on
  pub reached_skipped : (i : ℕ) (rest : List ℕ) (r : Result (Bor (List ℕ)) Refusal) → Reached i rest → Skipped r (many one (end - i) i rest) → Skipped r (many one (end - first) first text)
  reached_skipped i rest (Ok end) so_far left = (so_far.0 ++ left.0, so_far.1 ∙ ap (after so_far.0) left.1)
  reached_skipped i rest (Err e) so_far left = so_far.1 ∙ ap (after so_far.0) left

  -- the same, and the vector has these items
  abbrev pub Going : {Z : Type 0} → ℕ → Vec X Z → List ℕ → Type 0
  Going i v rest = (so_far : Reached i rest) × (vec_items v ≡ so_far.0)

  pub going_none : {Z : Type 0} (v : Vec X Z) → vec_items v ≡ [] → Going first v text
  unfolding reached_none
  going_none v e = (reached_none, e)

  pub going_more : {Z : Type 0} {ys : List ℕ} {x : X} (i : ℕ) (v w : Vec X Z) (rest : List ℕ) → i < end →
      Going i v rest → Ok (x, ys) ≡ one i rest → vec_items w ≡ vec_items v ++ (x ∷ []) → Going (i + 1) w ys
  unfolding reached_more
  going_more {x = x} i v w rest below going e push = (reached_more i rest below going.0 e, push ∙ ap (λ l. l ++ (x ∷ [])) going.1)

  pub going_fault : {Z : Type 0} {e : ℕ} (i : ℕ) (v : Vec X Z) (rest : List ℕ) → i < end → Going i v rest → Err e ≡ one i rest → many one (end - first) first text ≡ Err e
  going_fault i v rest below going e = reached_fault i rest below going.0 e

  pub going_all : {Z : Type 0} (i : ℕ) (v : Vec X Z) (rest : List ℕ) → end ≤ i → Going i v rest →
      (xs : List X) × (many one (end - first) first text ≡ Ok (xs, rest)) × (vec_items v ≡ xs)
  going_all i v rest done going = (going.0.0, reached_all i rest done going.0, going.1)
