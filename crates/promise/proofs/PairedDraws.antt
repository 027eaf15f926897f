-- Drawn bytes are paired one to one, and from paired bytes paired coins and the same keys are drawn. Assumes nothing.
use Rattle.std.proofs.Common.{◌≡◌, ℕ, zero, suc, ◌<◌, ◌≤◌, Bool, false, cond, ◌⊎◌, List, [], ◌∷◌, length, get_or, Ok, sym, refl, ap, ◌∙◌, subst, inl, inr, arith}
use mathlib.Core.List.{zip_with}
use Rattle.std.proofs.lemmas.List.FromFn.{length-map-range_with_len, get_or-map-range_with_len}
use Rattle.std.proofs.lemmas.List.{ext_get_or, get_or-map, get_or_past, length-map}
use Rattle.std.proofs.lemmas.Bool.{cases_lt}
use Rattle.circuit.specs.Circuit.{Circuit, wire_count, at, values}
use Rattle.circuit.specs.Refusals.{◌and_then◌}
use Rattle.keys.specs.Drawing.{draw_wires, no_wire, key_of, coins_of}
use Rattle.keys.specs.declared.wires.WireKeys.{WireKeys}
use Rattle.scheme.specs.Coins.{◌⊕◌, coins_of_pair}
use Rattle.scheme.specs.Garbling.{Key}
use Rattle.scheme.proofs.Colours.{xor_comm, xor_assoc}
use Rattle.scheme.proofs.Lists.{equal_tabulate}
use Rattle.promise.specs.Pairing.{recoined, recoined_wire, recoined_wires, differences, paired_wires}
use Rattle.promise.specs.Promise.{PairsBytes}
use Rattle.promise.proofs.Recoined.{recoined_drawn, recoined_back, recoined_size, recoined_small}

module _ {X Y Z : Type 0} (f : X → Y → Z) where
  zip_size : (xs : List X) (ys : List Y) → length xs ≡ length ys → length (zip_with f xs ys) ≡ length ys
  unfolding zip_with
  zip_size [] ys same = same
  zip_size (x ∷ xs) [] same = refl
  zip_size (x ∷ xs) (y ∷ ys) same = ap suc (zip_size xs ys (omega arith))

  zip_at : (xs : List X) (ys : List Y) (i : ℕ) (a : X) (b : Y) (d : Z) → i < length xs → i < length ys → get_or (zip_with f xs ys) i d ≡ f (get_or xs i a) (get_or ys i b)
  unfolding zip_with
  zip_at [] ys i a b d in-xs in_ys = absurd (omega arith)
  zip_at (x ∷ xs) [] i a b d in-xs in_ys = absurd (omega arith)
  zip_at (x ∷ xs) (y ∷ ys) zero a b d in-xs in_ys = refl
  zip_at (x ∷ xs) (y ∷ ys) (suc i) a b d in-xs in_ys = zip_at xs ys i a b d (omega arith) (omega arith)

-- some wires with coins turned over
module _ (fs : List Bool) (ws : List WireKeys) (size : length fs ≡ length ws) where
  recoined_at : (w : ℕ) → w < length ws → get_or (recoined_wires fs ws) w no_wire ≡ recoined_wire (at fs w) (get_or ws w no_wire)
  recoined_at w below = zip_at recoined_wire fs ws w false no_wire no_wire (omega arith) below

  pub recoined_keys : (k : Key) → key_of (recoined_wires fs ws) k ≡ key_of ws k
  recoined_keys k = go (cases_lt k.wire (length ws))
    where
      go : (k.wire < length ws) ⊎ (length ws ≤ k.wire) → key_of (recoined_wires fs ws) k ≡ key_of ws k
      go (inl below) = ap (λ (w : WireKeys). cond k.colour w.one w.zero) (recoined_at k.wire below)
      go (inr past) =
          ap (λ (w : WireKeys). cond k.colour w.one w.zero)
          (get_or_past (recoined_wires fs ws) k.wire no_wire (omega (arith, zip_size recoined_wire fs ws size)) ∙ sym (get_or_past ws k.wire no_wire past))

  pub recoined_coins : length (coins_of (recoined_wires fs ws)) ≡ length ws
  recoined_coins = length-map (recoined_wires fs ws) (λ (w : WireKeys). w.coin) ∙ zip_size recoined_wire fs ws size

  pub recoined_coin : (w : ℕ) → w < length ws → at (coins_of (recoined_wires fs ws)) w ≡ at fs w ⊕ at (coins_of ws) w
  recoined_coin w below =
      get_or-map (λ (w : WireKeys). w.coin) (recoined_wires fs ws) w no_wire false (omega (arith, zip_size recoined_wire fs ws size))
      ∙ ap (λ (w : WireKeys). w.coin) (recoined_at w below) ∙ ap (λ b. at fs w ⊕ b) (sym (get_or-map (λ (w : WireKeys). w.coin) ws w no_wire false below))

module _ (c : Circuit) (xs ys : List Bool) where
  pub differences_size : length (differences c xs ys) ≡ wire_count c
  differences_size = length-map-range_with_len (λ w. at (values c xs) w ⊕ at (values c ys) w) 0 (wire_count c)

  differences_at : (w : ℕ) → w < wire_count c → at (differences c xs ys) w ≡ at (values c xs) w ⊕ at (values c ys) w
  differences_at w below = get_or-map-range_with_len (λ w. at (values c xs) w ⊕ at (values c ys) w) 0 (wire_count c) w w false below (omega arith)

  differences_back : differences c ys xs ≡ differences c xs ys
  differences_back =
      equal_tabulate (λ w. at (values c ys) w ⊕ at (values c xs) w) (λ w. at (values c xs) w ⊕ at (values c ys) w) (wire_count c) (λ w below.
      xor_comm (at (values c ys) w) (at (values c xs) w))

  paired_coins_are : (ws : List WireKeys) → length ws ≡ wire_count c → coins_of (paired_wires c xs ys ws) ≡ coins_of_pair c xs ys (coins_of ws)
  paired_coins_are ws size =
      let fs = differences c xs ys in
      let coins = coins_of ws in
      let coins_size : length coins ≡ length ws = length-map ws (λ (w : WireKeys). w.coin) in
      let paired = λ (w : ℕ). at coins w ⊕ at (values c xs) w ⊕ at (values c ys) w in
      let paired_size : length (coins_of_pair c xs ys coins) ≡ length coins = length-map-range_with_len paired 0 (length coins) in
      let same : length fs ≡ length ws = differences_size ∙ sym size in
      ext_get_or false (coins_of (paired_wires c xs ys ws)) (coins_of_pair c xs ys coins) (recoined_coins fs ws same ∙ sym coins_size ∙ sym paired_size) (λ w below.
      let within : w < length ws = omega (arith, recoined_coins fs ws same) in
      recoined_coin fs ws same w within ∙ xor_comm (at fs w) (at coins w) ∙ ap (λ b. at coins w ⊕ b) (differences_at w (omega arith))
      ∙ sym (xor_assoc (at coins w) (at (values c xs) w) (at (values c ys) w)) ∙ sym (get_or-map-range_with_len paired 0 (length coins) w w false (omega arith) (omega arith)))

  pub pairs_bytes : (bytes : List ℕ) → PairsBytes c xs ys bytes
  pairs_bytes bytes =
      let fs = differences c xs ys in
      record {
        size = recoined_size fs [] bytes;
        small = recoined_small fs [] bytes;
        back = ap (λ gs. recoined gs [] (recoined fs [] bytes)) differences_back ∙ recoined_back fs [] bytes;
        drawn = subst (λ n. draw_wires n [] (recoined fs [] bytes) ≡ (draw_wires n [] bytes and_then λ ws. Ok (recoined_wires fs ws))) differences_size (recoined_drawn fs [] bytes);
        coins = paired_coins_are;
        keys = λ ws size. recoined_keys fs ws (differences_size ∙ sym size);
      }
