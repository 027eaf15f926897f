-- Rows and the keys that are held: a row looks open just if its colours are those held; and what is asked of tables for the argument to hold. Assumes nothing.
use Rattle.std.proofs.Common.{◌≡◌, ℕ, ◌+◌, ◌^◌, ◌<◌, Bool, true, false, not, List, [], ◌∷◌, map, length, sym, refl, ap, ◌∙◌, arith}
use mathlib.Core.List.{zip_with}
use Rattle.std.specs.List.{AllByRecursion}
use Rattle.std.proofs.ByRecursion.{All-weaker}
use Rattle.std.proofs.lemmas.List.{get_or-take}
use Rattle.std.proofs.lemmas.Bool.{and_parts, not-true}
use Rattle.circuit.specs.Circuit.{Circuit, WellFormed, wire_count, at, at_all, values}
use Rattle.circuit.specs.Numbers.{binary}
use Rattle.circuit.proofs.Values.{assigned, two_of}
use Rattle.scheme.specs.Coins.{◌⊕◌, colour}
use Rattle.scheme.specs.Garbling.{key, Row, opened, all_held, look}
use Rattle.scheme.specs.Opening.{Tweak}
use Rattle.scheme.specs.Yao.{gate_at, turned, held_for}
use Rattle.scheme.proofs.Colours.{xor_same, same_from_xor, xor_back}
use Rattle.scheme.proofs.Lists.{conses}

-- Of tables the argument asks two things: a row for each choice of colours,
pub record Complete (order : ℕ → ℕ → List Bool) (c : Circuit) : Type 0 where
  pub sized : (k : ℕ) → k < length c.gates → (p : ℕ) → length (order k p) ≡ length (gate_at c k).wires
  pub place : ℕ → List Bool → ℕ
  pub within : (k : ℕ) → k < length c.gates → (cs : List Bool) → length cs ≡ length (gate_at c k).wires → place k cs < 2 ^ length (gate_at c k).wires
  pub there : (k : ℕ) → k < length c.gates → (cs : List Bool) → length cs ≡ length (gate_at c k).wires → order k (place k cs) ≡ cs

-- and tweaks that tell the row that they close.
pub record Naming (tweak : Tweak) (c : Circuit) : Type 0 where
  pub gate : List ℕ → ℕ
  pub colours : List ℕ → List Bool
  pub gate_named : (k : ℕ) → k < length c.gates → (cs : List Bool) → length cs ≡ length (gate_at c k).wires → gate (tweak k cs) ≡ k
  pub colours_named : (k : ℕ) → k < length c.gates → (cs : List Bool) → length cs ≡ length (gate_at c k).wires → colours (tweak k cs) ≡ cs

pub record Setting (tweak : Tweak) (order : ℕ → ℕ → List Bool) (c : Circuit) : Type 0 where
  pub good : WellFormed c
  pub complete : Complete order c
  pub naming : Naming tweak c

-- the inputs come first among the values
pub input_value : (c : Circuit) → WellFormed c → (xs : List Bool) → length xs ≡ c.inputs → (w : ℕ) → w < c.inputs → at (values c xs) w ≡ at xs w
input_value c good xs fit w below = sym (get_or-take c.inputs (values c xs) w false below) ∙ ap (λ vs. at vs w) (assigned c xs good fit).inputs

-- a gate takes wires made before its own
pub gate_wires : (c : Circuit) → WellFormed c → (k : ℕ) → k < length c.gates → AllByRecursion (λ w. w < c.inputs + k) (gate_at c k).wires
gate_wires c good k below = grind (arith, two_of)

pub wires_below : (c : Circuit) → WellFormed c → (k : ℕ) → k < length c.gates → AllByRecursion (λ w. w < wire_count c) (gate_at c k).wires
wires_below c good k below = grind (arith, All-weaker, gate_wires)

pub keys_below : (n : ℕ) (ws : List ℕ) (cs : List Bool) → AllByRecursion (λ w. w < n) ws → AllByRecursion (λ k. k.wire < n) (zip_with key ws cs)
unfolding zip_with
keys_below n [] cs all = tt
keys_below n (w ∷ ws) [] all = tt
keys_below n (w ∷ ws) (b ∷ cs) all = (all.0, keys_below n ws cs all.1)

-- colours of values mean those values, and are made from them
module _ (coin : ℕ → Bool) (vs : List Bool) where
  turned_colours : (ws : List ℕ) → turned coin ws (map (λ w. colour (coin w) (at vs w)) ws) ≡ at_all vs ws
  unfolding zip_with
  turned_colours [] = refl
  turned_colours (w ∷ ws) = conses (xor_back (coin w) (at vs w)) (turned_colours ws)

  pub turned_values : (ws : List ℕ) → turned coin ws (at_all vs ws) ≡ map (λ w. colour (coin w) (at vs w)) ws
  unfolding zip_with
  turned_values [] = refl
  turned_values (w ∷ ws) = grind (arith, turned_values ws)

-- the row for the keys of the values holds the key of the gate's value
pub active_row : (c : Circuit) → WellFormed c → (xs : List Bool) → length xs ≡ c.inputs → (coin : ℕ → Bool) (k : ℕ) → k < length c.gates →
    held_for c coin k (map (λ w. colour (coin w) (at (values c xs) w)) (gate_at c k).wires) ≡ colour (coin (c.inputs + k)) (at (values c xs) (c.inputs + k))
active_row c good xs fit coin k below =
    ap (colour (coin (c.inputs + k)))
    (ap (λ bs. at (gate_at c k).gives (binary bs)) (turned_colours coin (values c xs) (gate_at c k).wires) ∙ sym ((assigned c xs good fit).gates k below))

-- one holds keys of the colours `held`
module _ (held : ℕ → Bool) where
  pub keys_held : (ws : List ℕ) → zip_with key ws (map held ws) ≡ map (λ w. key w (held w)) ws
  unfolding zip_with
  keys_held [] = refl
  keys_held (w ∷ ws) = ap (λ ks. key w (held w) ∷ ks) (keys_held ws)

  all_held_there : (ws : List ℕ) → all_held held (zip_with key ws (map held ws)) ≡ true
  unfolding zip_with
  all_held_there [] = refl
  all_held_there (w ∷ ws) = rw (xor_same (held w)) (all_held_there ws)

  pub looks_open : (r : Row) (ws : List ℕ) → r.keys ≡ zip_with key ws (map held ws) → look held r ≡ opened r.holds
  looks_open r ws keys = grind (arith, all_held_there)

  pub colours_held : (ws : List ℕ) (cs : List Bool) → length cs ≡ length ws → all_held held (zip_with key ws cs) ≡ true → cs ≡ map held ws
  unfolding zip_with
  colours_held [] [] len all = refl
  colours_held [] (b ∷ cs) len all = absurd (omega arith)
  colours_held (w ∷ ws) [] len all = absurd (omega arith)
  colours_held (w ∷ ws) (b ∷ cs) len all =
      let both = and_parts (not (b ⊕ held w)) (all_held held (zip_with key ws cs)) all in
      conses (same_from_xor b (held w) (not-true (b ⊕ held w) both.0)) (colours_held ws cs (omega arith) both.1)
