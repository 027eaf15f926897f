-- The first difference of two results: where it is found, and what it says. Assumes nothing.
use Rattle.std.proofs.Common.{◌≡◌, ℕ, zero, suc, ◌+◌, ◌<◌, Bool, true, false, cond, List, [], ◌∷◌, length, Some, None, sym, refl, ap, ◌∙◌, arith}
use Rattle.std.specs.List.{position, position_from}
use Rattle.std.proofs.lemmas.Iterator.Adapters.{position_from-zero}
use Rattle.std.proofs.lemmas.Bool.{true≢false}
use Rattle.circuit.specs.Circuit.{at, at_all}
use Rattle.scheme.specs.Coins.{◌⊕◌}
use Rattle.scheme.specs.Results.{first_differing, Differs}
use Rattle.scheme.proofs.Colours.{xor_same, same_from_xor}

-- the place that is found among the outputs
module _ (before after : List Bool) where
  from_place : (k : ℕ) (ws : List ℕ) → position_from (λ w. at before w ⊕ at after w) k ws ≡ first_differing k (at_all before ws) (at_all after ws)
  unfolding first_differing
  from_place k [] = refl
  from_place k (w ∷ ws) = ap (cond (at before w ⊕ at after w) (Some k)) (from_place (k + 1) ws)

  pub first_place : (outputs : List ℕ) → position (λ w. at before w ⊕ at after w) outputs ≡ first_differing 0 (at_all before outputs) (at_all after outputs)
  first_place outputs = position_from-zero (λ w. at before w ⊕ at after w) outputs ∙ from_place 0 outputs

pub no_difference : (k : ℕ) (r s : List Bool) → length r ≡ length s → first_differing k r s ≡ None → r ≡ s
unfolding first_differing
no_difference k [] [] len e = refl
no_difference k [] (y ∷ s) len e = absurd (omega arith)
no_difference k (x ∷ r) [] len e = absurd (omega arith)
no_difference k (x ∷ r) (y ∷ s) len e = go (x ⊕ y) refl e (no_difference (k + 1) r s (omega arith))
  where
    go : (b : Bool) → x ⊕ y ≡ b → cond b (Some k) (first_differing (k + 1) r s) ≡ None → (first_differing (k + 1) r s ≡ None → r ≡ s) → x ∷ r ≡ y ∷ s
    go true is e rest = cc
    go false is e rest = rw (same_from_xor x y is, rest e)

pub difference : (k m : ℕ) (r s : List Bool) → first_differing k r s ≡ Some m → (j : ℕ) × (m ≡ k + j) × Differs r s j
unfolding first_differing
difference k m [] s e = cc
difference k m (x ∷ r) [] e = cc
difference k m (x ∷ r) (y ∷ s) e = go (x ⊕ y) refl e (difference (k + 1) m r s)
  where
    go : (b : Bool) → x ⊕ y ≡ b → cond b (Some k) (first_differing (k + 1) r s) ≡ Some m →
        (first_differing (k + 1) r s ≡ Some m → (j : ℕ) × (m ≡ k + 1 + j) × Differs r s j) → (j : ℕ) × (m ≡ k + j) × Differs (x ∷ r) (y ∷ s) j
    go true is e rest =
        let same : k ≡ m = cc in (
          0,
          omega arith,
          record {
            within = omega arith;
            here = λ e. true≢false (sym is ∙ ap (λ b. b ⊕ y) e ∙ xor_same y);
            before = λ j below. absurd (omega arith);
          },
        )
    go false is e rest =
        let more = rest e in
        (suc more.0, omega arith, record { within = (let w = more.2.within in omega arith); here = more.2.here; before = before more.0 more.2.before })
      where
        before : (n : ℕ) → ((j : ℕ) → j < n → at r j ≡ at s j) → (j : ℕ) → j < suc n → at (x ∷ r) j ≡ at (y ∷ s) j
        before n rest zero below = same_from_xor x y is
        before n rest (suc j) below = rest j (omega arith)
