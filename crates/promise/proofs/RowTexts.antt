-- The text of a row tells its gate and its place, so no two rows are closed with the same text. Assumes nothing.
use Rattle.std.proofs.Common.{◌≡◌, ℕ, ◌+◌, ◌-◌, ◌^◌, ◌<◌, true, ◌&&◌, eqb, ltb, List, [], ◌∷◌, ◌++◌, map, length, get_or, take, drop, sym, refl, ap, ◌∙◌, ap₂, arith}
use mathlib.Core.List.{flatten}
use Rattle.std.specs.Int.Digits.{number_from_digits}
use Rattle.std.proofs.lemmas.List.{append_assoc, length-append, get_or_at, take_at, drop_at}
use Rattle.std.proofs.lemmas.Bool.{and_from, and_parts, eq-eqb, eqb-true, lt-ltb}
use Rattle.circuit.specs.Circuit.{Circuit, WellFormed}
use Rattle.circuit.specs.Numbers.{digits, binary, bits}
use Rattle.circuit.proofs.Numbers.{length_digits, number_digits, binary_bits}
use Rattle.keys.specs.Drawing.{key_of, coins_of}
use Rattle.keys.specs.declared.wires.WireKeys.{WireKeys}
use Rattle.scheme.specs.Yao.{gate_at}
use Rattle.promise.specs.Exchange.{row_at, row_count, text_at, gate_in, place_in, same, closes}

module _ (front : List ℕ) (k p : ℕ) where
  abbrev text : List ℕ
  text = front ++ (digits 256 4 k ++ (p ∷ []))

  text_size : length text ≡ length front + 5
  text_size = length-append front (digits 256 4 k ++ (p ∷ [])) ∙ ap (λ n. length front + n) (length-append (digits 256 4 k) (p ∷ []) ∙ ap (λ n. n + 1) (length_digits 256 4 k))

  gate_in_is : k < 256 ^ 4 → gate_in text ≡ k
  gate_in_is small =
      let skipped : length text - 5 ≡ length front = omega (arith, text_size) in
      ap (λ n. number_from_digits 256 (take 4 (drop n text))) skipped ∙ ap (λ l. number_from_digits 256 (take 4 l)) (drop_at front (digits 256 4 k ++ (p ∷ [])) (length front) refl)
      ∙ ap (number_from_digits 256) (take_at (digits 256 4 k) (p ∷ []) 4 (length_digits 256 4 k)) ∙ number_digits 256 4 k (omega arith) small

  place_in_is : place_in text ≡ p
  place_in_is =
      let last : length text - 1 ≡ length front + 4 = omega (arith, text_size) in
      ap₂ (λ l n. get_or l n 0) (sym (append_assoc front (digits 256 4 k) (p ∷ []))) last
      ∙ get_or_at (front ++ digits 256 4 k) p [] 0 (length front + 4) (length-append front (digits 256 4 k) ∙ ap (λ n. length front + n) (length_digits 256 4 k))

pub same_itself : (t : List ℕ) → same t t ≡ true
unfolding same
same_itself [] = refl
same_itself (x ∷ xs) = and_from (eqb x x) (same xs xs) (eq-eqb x x refl) (same_itself xs)

pub same_equal : (s t : List ℕ) → same s t ≡ true → s ≡ t
unfolding same
same_equal [] [] is = refl
same_equal [] (y ∷ ys) is = cc
same_equal (x ∷ xs) [] is = cc
same_equal (x ∷ xs) (y ∷ ys) is =
    let both = and_parts (eqb x y) (same xs ys) is in
    ap₂ (λ (a : ℕ) (l : List ℕ). a ∷ l) (eqb-true x y both.0) (same_equal xs ys both.1)

module _ (c : Circuit) (good : WellFormed c) (ws : List WireKeys) where
  module _ (k p : ℕ) (gate : k < length c.gates) (place : p < row_count c k) where
    gate_small : k < 256 ^ 4
    gate_small = omega (arith, good.2)

    abbrev keys : List ℕ
    keys = flatten (map (key_of ws) (row_at c (coins_of ws) k p).keys)

    abbrev place_is : binary (bits (length (gate_at c k).wires) p) ≡ p
    place_is = binary_bits (length (gate_at c k).wires) p place

    pub gate_told : gate_in (text_at c ws k p) ≡ k
    gate_told = gate_in_is keys k (binary (bits (length (gate_at c k).wires) p)) gate_small

    pub place_told : place_in (text_at c ws k p) ≡ p
    place_told = place_in_is keys k (binary (bits (length (gate_at c k).wires) p)) ∙ place_is

    pub closes_own : closes c ws (text_at c ws k p) ≡ true
    closes_own =
        let t = text_at c ws k p in
        ap₂ (λ (g q : ℕ). ltb g (length c.gates) && ltb q (row_count c g) && same t (text_at c ws g q)) gate_told place_told
        ∙ and_from (ltb k (length c.gates) && ltb p (row_count c k)) (same t t)
        (and_from (ltb k (length c.gates)) (ltb p (row_count c k)) (lt-ltb k (length c.gates) gate) (lt-ltb p (row_count c k) place)) (same_itself t)

  pub texts_apart : (k l p q : ℕ) → k < length c.gates → l < length c.gates → p < row_count c k → q < row_count c l → text_at c ws k p ≡ text_at c ws l q → (k ≡ l) × (p ≡ q)
  texts_apart k l p q k-within l-within p-within q-within e =
      (sym (gate_told k p k-within p-within) ∙ ap gate_in e ∙ gate_told l q l-within q-within, sym (place_told k p k-within p-within) ∙ ap place_in e ∙ place_told l q l-within q-within)
