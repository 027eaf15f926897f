-- The tables of gates, row by row. Assumes nothing.
use Rattle.std.proofs.Common.{◌≡◌, ℕ, ◌^◌, ◌<◌, Bool, List, [], map, length, get_or, ap, ◌∙◌}
use mathlib.Core.List.Memᴰ
use mathlib.Core.List.{flatten, Forall₂, Memᴰ}
use Rattle.circuit.specs.Circuit.{Circuit}
use Rattle.scheme.specs.Garbling.{Row, tabulate}
use Rattle.scheme.specs.Opening.{Tweak}
use Rattle.scheme.specs.Yao.{gate_at, row_of, tables_holding}
use Rattle.scheme.proofs.Lists.{entry, tabulate_beside, tabulate_member, flatten_member}

module _ (tweak : Tweak) (c : Circuit) (order : ℕ → ℕ → List Bool) where
  abbrev row_count : ℕ → ℕ
  row_count k = 2 ^ length (gate_at c k).wires

  -- row p of gate k
  abbrev row : (ℕ → List Bool → Bool) → ℕ → ℕ → Row
  row held k p = row_of tweak c k (order k p) (held k (order k p))

  -- two that differ in what they hold, row by row
  pub tables_beside : (R : Row → Row → Type 0) (held other : ℕ → List Bool → Bool) → ((k : ℕ) → k < length c.gates → (p : ℕ) → R (row held k p) (row other k p)) →
      Forall₂ (Forall₂ R) (tables_holding tweak c order held) (tables_holding tweak c order other)
  tables_beside R held other h =
      tabulate_beside (Forall₂ R) (λ k. tabulate (row_count k) (row held k)) (λ k. tabulate (row_count k) (row other k)) (length c.gates)
      (λ k below. tabulate_beside R (row held k) (row other k) (row_count k) (λ p small. h k below p))

  -- a row in its place, and as a member, whatever is made of it
  pub row_entry : {X : Type 0} (f : Row → X) (held : ℕ → List Bool → Bool) (k p : ℕ) (d : X) → k < length c.gates → p < row_count k →
      get_or (get_or (map (map f) (tables_holding tweak c order held)) k []) p d ≡ f (row held k p)
  row_entry f held k p d below small =
      ap (λ rows. get_or rows p d) (entry (map f) (λ k. tabulate (row_count k) (row held k)) (length c.gates) k [] below) ∙ entry f (row held k) (row_count k) p d small

  pub row_member : {X : Type 0} (f : Row → X) (held : ℕ → List Bool → Bool) (k p : ℕ) → k < length c.gates → p < row_count k →
      Memᴰ (f (row held k p)) (flatten (map (map f) (tables_holding tweak c order held)))
  row_member f held k p below small =
      flatten_member (Memᴰ.map f (tabulate_member (row held k) (row_count k) p small))
      (Memᴰ.map (map f) (tabulate_member (λ k. tabulate (row_count k) (row held k)) (length c.gates) k below))
