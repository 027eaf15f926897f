-- Tables by colours and by values have a row for each choice of colours, and tweaks with the gate's number tell their rows, as do those without it where there is
-- one gate. Assumes nothing.
use Rattle.std.proofs.Common.{◌≡◌, ℕ, suc, ◌≤◌, Bool, List, [], ◌∷◌, length, get_or, refl, ap, ◌∙◌, arith}
use mathlib.Core.List.{zip_with}
use Rattle.circuit.specs.Circuit.{Circuit}
use Rattle.circuit.specs.Numbers.{binary, bits}
use Rattle.circuit.proofs.Numbers.{bits_binary, binary_lt, length_bits}
use Rattle.scheme.specs.NearMisses.{by_value, unnumbered}
use Rattle.scheme.specs.Yao.{gate_at, turned, by_colour, numbered}
use Rattle.scheme.proofs.Colours.{xor_back}
use Rattle.scheme.proofs.Lists.{conses}
use Rattle.scheme.proofs.Rows.{Complete, Naming}

pub by_colour_complete : (c : Circuit) (coin : ℕ → Bool) → Complete (λ k. by_colour coin (gate_at c k)) c
by_colour_complete c coin =
    record {
      sized = λ k below p. length_bits (length (gate_at c k).wires) p;
      place = λ k cs. binary cs;
      within = λ k below cs len. rw len at (binary_lt cs);
      there = λ k below cs len. bits_binary (length (gate_at c k).wires) cs len;
    }

turned_size : (coin : ℕ → Bool) (ws : List ℕ) (cs : List Bool) → length cs ≡ length ws → length (turned coin ws cs) ≡ length ws
unfolding zip_with
turned_size coin [] cs len = refl
turned_size coin (w ∷ ws) [] len = absurd (omega arith)
turned_size coin (w ∷ ws) (b ∷ cs) len = ap suc (turned_size coin ws cs (omega arith))

turned_twice : (coin : ℕ → Bool) (ws : List ℕ) (cs : List Bool) → length cs ≡ length ws → turned coin ws (turned coin ws cs) ≡ cs
unfolding zip_with
turned_twice coin [] [] len = refl
turned_twice coin [] (b ∷ cs) len = absurd (omega arith)
turned_twice coin (w ∷ ws) [] len = absurd (omega arith)
turned_twice coin (w ∷ ws) (b ∷ cs) len = conses (xor_back (coin w) b) (turned_twice coin ws cs (omega arith))

pub by_value_complete : (c : Circuit) (coin : ℕ → Bool) → Complete (λ k. by_value coin (gate_at c k)) c
by_value_complete c coin =
    record {
      sized = λ k below p. turned_size coin (gate_at c k).wires (bits (length (gate_at c k).wires) p) (length_bits (length (gate_at c k).wires) p);
      place = λ k cs. binary (turned coin (gate_at c k).wires cs);
      within = λ k below cs len. rw (turned_size coin (gate_at c k).wires cs len) at (binary_lt (turned coin (gate_at c k).wires cs));
      there = λ k below cs len.
          ap (turned coin (gate_at c k).wires) (bits_binary (length (gate_at c k).wires) (turned coin (gate_at c k).wires cs) (turned_size coin (gate_at c k).wires cs len))
          ∙ turned_twice coin (gate_at c k).wires cs len;
    }

pub by_number : (c : Circuit) → Naming numbered c
by_number c =
    record {
      gate = λ ns. get_or ns 0 0;
      colours = λ ns. bits (length (gate_at c (get_or ns 0 0)).wires) (get_or ns 1 0);
      gate_named = λ k below cs len. refl;
      colours_named = λ k below cs len. bits_binary (length (gate_at c k).wires) cs len;
    }

pub one_gate : (c : Circuit) → length c.gates ≤ 1 → Naming unnumbered c
one_gate c few =
    record {
      gate = λ ns. 0;
      colours = λ ns. bits (length (gate_at c 0).wires) (get_or ns 0 0);
      gate_named = λ k below cs len. omega arith;
      colours_named = λ k below cs len.
          let first : k ≡ 0 = omega arith in
          bits_binary (length (gate_at c 0).wires) cs (len ∙ ap (λ j. length (gate_at c j).wires) first);
    }
