-- The worked examples. Assumes nothing.
use Rattle.std.proofs.Common.{◌≡◌, ℕ, ◌^◌, ◌<◌, Bool, true, false, cond, not, List, [], ◌∷◌, length, refl, ap, ◌∙◌, arith}
use mathlib.Core.List.{zip_with}
use Rattle.std.specs.List.{AllByRecursion}
use Rattle.circuit.specs.Circuit.{Circuit, at, at_all, extended, result}
use Rattle.circuit.specs.Numbers.{bits, digits}
use Rattle.scheme.specs.Examples.{Works, examples, WorkedExamples}
use Rattle.scheme.specs.Garbling.{key, Row, Seen, opened, closed, seen_at, all_held, look, active, view}
use Rattle.scheme.specs.Yao.{gate_at, row_of, held_for, by_colour, numbered, yao}
use Rattle.scheme.proofs.Tables.{row_entry}

examples_work : AllByRecursion Works examples
unfolding extended zip_with digits
examples_work =
    ((refl, refl, refl, refl), ((refl, refl, refl, refl), ((refl, refl, refl, refl), ((refl, refl, refl, refl), ((refl, refl, refl, refl), ((refl, refl, refl, refl), ((refl, refl, refl, refl), tt)))))))

-- keys of both colours of one wire are not active together
never_both : (c : Circuit) (xs coins : List Bool) (w : ℕ) (b : Bool) → all_held (λ v. (active yao c xs coins v).colour) (key w b ∷ key w (not b) ∷ []) ≡ false
never_both c xs coins w b = grind arith

module _ (c : Circuit) (k w : ℕ) (below : k < length c.gates) (same : (gate_at c k).wires ≡ w ∷ w ∷ []) (xs coins : List Bool) (s : Seen) where
  abbrev held : ℕ → Bool
  held v = (active yao c xs coins v).colour

  abbrev row : ℕ → Row
  row p = row_of numbered c k (by_colour (at coins) (gate_at c k) p) (held_for c (at coins) k (by_colour (at coins) (gate_at c k) p))

  seen_at_place : (p : ℕ) → p < 4 → seen_at (view yao c xs coins) k p s ≡ look held (row p)
  seen_at_place p small =
      let four : 2 ^ length (gate_at c k).wires ≡ 4 = ap (λ ws. 2 ^ length ws) same in
      row_entry numbered c (λ k. by_colour (at coins) (gate_at c k)) (look held) (held_for c (at coins)) k p s below (omega arith)

  shut : (p : ℕ) (b : Bool) → zip_with key (w ∷ w ∷ []) (bits 2 p) ≡ key w b ∷ key w (not b) ∷ [] → look held (row p) ≡ closed
  shut p b keys =
      ap (λ ks. cond (all_held held ks) (opened (row p).holds) closed) (ap (λ ws. zip_with key ws (bits (length ws) p)) same ∙ keys)
      ∙ ap (λ t. cond t (opened (row p).holds) closed) (never_both c xs coins w b)

  never_open : (seen_at (view yao c xs coins) k 0b01 s ≡ closed) × (seen_at (view yao c xs coins) k 0b10 s ≡ closed)
  unfolding zip_with digits
  never_open = (seen_at_place 1 (omega arith) ∙ shut 1 false refl, seen_at_place 2 (omega arith) ∙ shut 2 true refl)

no_gates : (c : Circuit) → c.gates ≡ [] → (xs : List Bool) → result c xs ≡ at_all xs c.outputs
unfolding extended
no_gates c none xs = ap (λ gs. at_all (extended gs xs) c.outputs) none

pub worked : WorkedExamples
unfolding extended digits
worked =
    record {
      work = examples_work;
      paired = refl;
      no_gates = no_gates;
      never_open = λ c k w below same xs coins s. never_open c k w below same xs coins s;
    }
