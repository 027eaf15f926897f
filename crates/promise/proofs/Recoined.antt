-- Drawn bytes with coins turned over: the same keys are drawn, with those coins turned over, and turning over twice is nothing. Assumes nothing.
use Rattle.std.proofs.Common.{◌≡◌, ℕ, zero, suc, ◌+◌, ◌-◌, ◌*◌, ◌/◌, ◌%◌, ◌<◌, Bool, true, false, List, [], ◌∷◌, ◌++◌, length, take, Ok, Err, sym, refl, ap, ◌∙◌, subst, ap₂, arith}
use mathlib.Core.List.{zip_with}
use Rattle.std.proofs.ByRecursion.{All-append, All-take, All-drop}
use Rattle.std.proofs.lemmas.List.{length-append, take_at, drop_at}
use Rattle.std.proofs.lemmas.Bool.{eq-eqb, ne_eqb, eqb-true, eqb-false}
use Rattle.circuit.specs.Format.{Part}
use Rattle.circuit.specs.Numbers.{bit}
use Rattle.circuit.specs.Refusals.{Answer, ◌and_then◌}
use Rattle.circuit.proofs.AndThen.{then_is, then_err}
use Rattle.keys.specs.Drawing.{Bytes, coin_of, draw_keys, wire_of, seen_with, draw_wires}
use Rattle.keys.specs.declared.wires.WireKeys.{WireKeys}
use Rattle.scheme.specs.Coins.{◌⊕◌}
use Rattle.scheme.proofs.Colours.{xor_back}
use Rattle.promise.specs.Pairing.{turned_over, after_keys, recoined, recoined_wires}
use Rattle.promise.proofs.Cuts.{KeysCut, keys_cut}

-- a byte's coin
half_of : (q : ℕ) (x : Bool) → (2 * q + bit x) / 2 ≡ q
half_of q true = omega arith
half_of q false = omega arith

coin_of_bit : (q : ℕ) (x : Bool) → coin_of (2 * q + bit x) ≡ x
coin_of_bit q true = eq-eqb ((2 * q + 1) % 2) 1 (omega arith)
coin_of_bit q false = ne_eqb ((2 * q + 0) % 2) 1 (λ e. omega arith)

byte_of : (b : ℕ) (x : Bool) → coin_of b ≡ x → 2 * (b / 2) + bit x ≡ b
byte_of b true is = omega (arith, eqb-true (b % 2) 1 is)
byte_of b false is = let odd : b % 2 ≡ 1 → ⊥ = eqb-false (b % 2) 1 is in go (b % 2) refl odd
  where
    go : (r : ℕ) → b % 2 ≡ r → (r ≡ 1 → ⊥) → 2 * (b / 2) + 0 ≡ b
    go zero e odd = omega arith
    go (suc zero) e odd = absurd (odd refl)
    go (suc (suc r)) e odd = absurd (omega arith)

turned_coin : (f : Bool) (b : ℕ) → coin_of (turned_over f b) ≡ f ⊕ coin_of b
turned_coin f b = coin_of_bit (b / 2) (f ⊕ coin_of b)

turned_back : (f : Bool) (b : ℕ) → turned_over f (turned_over f b) ≡ b
turned_back f b =
    ap₂ (λ q x. 2 * q + bit (f ⊕ x)) (half_of (b / 2) (f ⊕ coin_of b)) (turned_coin f b) ∙ ap (λ x. 2 * (b / 2) + bit x) (xor_back f (coin_of b)) ∙ byte_of b (coin_of b) refl

turned_small : (f : Bool) (b : ℕ) → b < 256 → turned_over f b < 256
turned_small f b small = go (f ⊕ coin_of b)
  where
    go : (x : Bool) → 2 * (b / 2) + bit x < 256
    go true = omega arith
    go false = omega arith

module _ (f : Bool) (fs : List Bool) (seen : List ℕ) where
  -- where the keys of the first wire can be drawn, and where they cannot
  wire_changed : (b : ℕ) (front rest : List ℕ) (ks : List ℕ × List ℕ) → draw_keys seen (front ++ rest) ≡ Ok (ks, rest) →
      recoined (f ∷ fs) seen (b ∷ (front ++ rest)) ≡ turned_over f b ∷ (front ++ recoined fs (seen_with ks seen) rest)
  unfolding recoined
  wire_changed b front rest ks is =
      let size : length (front ++ rest) - length rest ≡ length front = omega (arith, length-append front rest) in
      ap (λ p. turned_over f b ∷ after_keys (λ ks ys. recoined fs (seen_with ks seen) ys) (front ++ rest) p) is
      ∙ ap (λ l. turned_over f b ∷ (l ++ recoined fs (seen_with ks seen) rest)) (ap (λ n. take n (front ++ rest)) size ∙ take_at front rest (length front) refl)

  wire_left : (b : ℕ) (xs : List ℕ) (n : ℕ) → draw_keys seen xs ≡ Err n → recoined (f ∷ fs) seen (b ∷ xs) ≡ turned_over f b ∷ xs
  unfolding recoined
  wire_left b xs n is = ap (λ p. turned_over f b ∷ after_keys (λ ks ys. recoined fs (seen_with ks seen) ys) xs p) is

module _ (f : Bool) (fs : List Bool) (seen : List ℕ) (b : ℕ) (xs : List ℕ) where
  module _ (ks : List ℕ × List ℕ) (rest : List ℕ) (is : draw_keys seen xs ≡ Ok (ks, rest)) where
    abbrev cut : KeysCut seen xs ks rest
    cut = keys_cut seen xs ks rest is

    abbrev later : List ℕ
    later = recoined fs (seen_with ks seen) rest

    changed : recoined (f ∷ fs) seen (b ∷ xs) ≡ turned_over f b ∷ (cut.front ++ later)
    changed = ap (λ l. recoined (f ∷ fs) seen (b ∷ l)) cut.whole ∙ wire_changed f fs seen b cut.front rest ks (cut.again rest)

  -- the first wire, and then the others
  both : (a : Answer (List WireKeys)) (ks : List ℕ × List ℕ) →
      ((a and_then λ ws. Ok (recoined_wires fs ws)) and_then λ ws. Ok (wire_of (turned_over f b) ks ∷ ws))
      ≡ ((a and_then λ ws. Ok (wire_of b ks ∷ ws)) and_then λ ws. Ok (recoined_wires (f ∷ fs) ws))
  unfolding zip_with
  both (Ok ws) ks = ap (λ x. Ok (record { coin = x; zero = (wire_of b ks).zero; one = (wire_of b ks).one } ∷ recoined_wires fs ws)) (turned_coin f b)
  both (Err e) ks = refl

  wire_drawn : (p : Part (List ℕ × List ℕ)) → draw_keys seen xs ≡ p →
      ((seen ys : List ℕ) → draw_wires (length fs) seen (recoined fs seen ys) ≡ (draw_wires (length fs) seen ys and_then λ ws. Ok (recoined_wires fs ws))) →
      draw_wires (suc (length fs)) seen (recoined (f ∷ fs) seen (b ∷ xs)) ≡ (draw_wires (suc (length fs)) seen (b ∷ xs) and_then λ ws. Ok (recoined_wires (f ∷ fs) ws))
  unfolding draw_wires
  wire_drawn (Ok (ks, rest)) is others =
      let next = λ (a : ℕ) (p : (List ℕ × List ℕ) × List ℕ). draw_wires (length fs) (seen_with p.0 seen) p.1 and_then λ ws. Ok (wire_of a p.0 ∷ ws) in
      ap (draw_wires (suc (length fs)) seen) (changed ks rest is)
      ∙ then_is (next (turned_over f b)) ((cut ks rest is).again (later ks rest is))
      ∙ ap (λ a. a and_then λ ws. Ok (wire_of (turned_over f b) ks ∷ ws)) (others (seen_with ks seen) rest)
      ∙ both (draw_wires (length fs) (seen_with ks seen) rest) ks
      ∙ sym (ap (λ a. a and_then λ ws. Ok (recoined_wires (f ∷ fs) ws)) (then_is (next b) is))
  wire_drawn (Err e) is others =
      let next = λ (a : ℕ) (p : (List ℕ × List ℕ) × List ℕ). draw_wires (length fs) (seen_with p.0 seen) p.1 and_then λ ws. Ok (wire_of a p.0 ∷ ws) in
      ap (draw_wires (suc (length fs)) seen) (wire_left f fs seen b xs e is)
      ∙ then_err (next (turned_over f b)) is ∙ sym (ap (λ a. a and_then λ ws. Ok (recoined_wires (f ∷ fs) ws)) (then_err (next b) is))

  wire_back : (p : Part (List ℕ × List ℕ)) → draw_keys seen xs ≡ p → ((seen ys : List ℕ) → recoined fs seen (recoined fs seen ys) ≡ ys) →
      recoined (f ∷ fs) seen (recoined (f ∷ fs) seen (b ∷ xs)) ≡ b ∷ xs
  wire_back (Ok (ks, rest)) is others =
      ap (recoined (f ∷ fs) seen) (changed ks rest is)
      ∙ wire_changed f fs seen (turned_over f b) (cut ks rest is).front (later ks rest is) ks ((cut ks rest is).again (later ks rest is))
      ∙ ap₂ (λ a l. a ∷ ((cut ks rest is).front ++ l)) (turned_back f b) (others (seen_with ks seen) rest) ∙ ap (λ l. b ∷ l) (sym (cut ks rest is).whole)
  wire_back (Err e) is others =
      ap (recoined (f ∷ fs) seen) (wire_left f fs seen b xs e is) ∙ wire_left f fs seen (turned_over f b) xs e is ∙ ap (λ a. a ∷ xs) (turned_back f b)

  wire_size : (p : Part (List ℕ × List ℕ)) → draw_keys seen xs ≡ p → ((seen ys : List ℕ) → length (recoined fs seen ys) ≡ length ys) →
      length (recoined (f ∷ fs) seen (b ∷ xs)) ≡ suc (length xs)
  wire_size (Ok (ks, rest)) is others =
      let front = (cut ks rest is).front in
      ap length (changed ks rest is)
      ∙ ap suc (length-append front (later ks rest is) ∙ ap (λ n. length front + n) (others (seen_with ks seen) rest) ∙ sym (length-append front rest) ∙ ap length (sym (cut ks rest is).whole))
  wire_size (Err e) is others = ap length (wire_left f fs seen b xs e is)

  wire_small : (p : Part (List ℕ × List ℕ)) → draw_keys seen xs ≡ p → ((seen ys : List ℕ) → Bytes ys → Bytes (recoined fs seen ys)) → b < 256 → Bytes xs →
      Bytes (recoined (f ∷ fs) seen (b ∷ xs))
  wire_small (Ok (ks, rest)) is others small all =
      let front = (cut ks rest is).front in
      let parts : Bytes (front ++ rest) = subst Bytes (cut ks rest is).whole all in
      let front_all : Bytes front = subst Bytes (take_at front rest (length front) refl) (All-take (λ b. b < 256) (length front) (front ++ rest) parts) in
      let rest_all : Bytes rest = subst Bytes (drop_at front rest (length front) refl) (All-drop (λ b. b < 256) (length front) (front ++ rest) parts) in
      subst Bytes (sym (changed ks rest is))
      (turned_small f b small, All-append (λ b. b < 256) front (later ks rest is) front_all (others (seen_with ks seen) rest rest_all))
  wire_small (Err e) is others small all = subst Bytes (sym (wire_left f fs seen b xs e is)) (turned_small f b small, all)

pub recoined_drawn : (fs : List Bool) (seen xs : List ℕ) → draw_wires (length fs) seen (recoined fs seen xs) ≡ (draw_wires (length fs) seen xs and_then λ ws. Ok (recoined_wires fs ws))
unfolding recoined draw_wires zip_with
recoined_drawn [] seen xs = refl
recoined_drawn (f ∷ fs) seen [] = refl
recoined_drawn (f ∷ fs) seen (b ∷ xs) = wire_drawn f fs seen b xs (draw_keys seen xs) refl (recoined_drawn fs)

pub recoined_back : (fs : List Bool) (seen xs : List ℕ) → recoined fs seen (recoined fs seen xs) ≡ xs
unfolding recoined
recoined_back [] seen xs = refl
recoined_back (f ∷ fs) seen [] = refl
recoined_back (f ∷ fs) seen (b ∷ xs) = wire_back f fs seen b xs (draw_keys seen xs) refl (recoined_back fs)

pub recoined_size : (fs : List Bool) (seen xs : List ℕ) → length (recoined fs seen xs) ≡ length xs
unfolding recoined
recoined_size [] seen xs = refl
recoined_size (f ∷ fs) seen [] = refl
recoined_size (f ∷ fs) seen (b ∷ xs) = wire_size f fs seen b xs (draw_keys seen xs) refl (recoined_size fs)

pub recoined_small : (fs : List Bool) (seen xs : List ℕ) → Bytes xs → Bytes (recoined fs seen xs)
unfolding recoined
recoined_small [] seen xs all = all
recoined_small (f ∷ fs) seen [] all = all
recoined_small (f ∷ fs) seen (b ∷ xs) all = wire_small f fs seen b xs (draw_keys seen xs) refl (recoined_small fs) all.0 all.1
