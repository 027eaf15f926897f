-- What a maker and the notary send, written out: the bytes of the scheme's terms. Assumes nothing.
use Rattle.std.proofs.Common.{◌≡◌, ℕ, zero, suc, ◌+◌, ◌-◌, ◌*◌, ◌/◌, ◌<◌, ◌≤◌, Bool, true, false, List, [], ◌∷◌, map, length, get_or, take, drop, Ok, Err, sym, refl, ap, ◌∙◌, add-zero, arith}
use mathlib.Core.List.{map-map}
use Rattle.std.specs.List.{range_with_len, flat_map, AllByRecursion}
use Rattle.std.proofs.lemmas.List.FromFn.{length-map-range_with_len, get_or-map-range_with_len, take-map-range_with_len}
use Rattle.std.proofs.lemmas.List.{ext_get_or, get_or-drop, length-drop}
use Rattle.std.proofs.lemmas.Bool.{eq-eqb}
use Rattle.circuit.specs.Circuit.{Circuit, WellFormed, wire_count, at}
use Rattle.circuit.specs.Numbers.{bit}
use Rattle.circuit.specs.Refusals.{◌and_then◌}
use Rattle.circuit.proofs.AndThen.{then_is, then_err}
use Rattle.bits.specs.Texts.{values_text}
use Rattle.bits.proofs.BitTexts.{values_back}
use Rattle.garble.specs.Garbled.{TextHash, closed_row, files_of, key_for, notary_keys, maker_keys, garbled}
use Rattle.garble.specs.Interpretation.{BlockHash, interpretation}
use Rattle.keys.specs.Drawing.{drawn, key_of, coins_of}
use Rattle.keys.specs.Files.{keys_file, chosen, choice, notarized}
use Rattle.keys.specs.declared.wires.WireKeys.{WireKeys}
use Rattle.keys.proofs.Filed.{whole_blocks, file_back}
use Rattle.scheme.specs.Bytes.{Block, Drawn, value, xor_bytes}
use Rattle.scheme.specs.Garbling.{Key, Row, tabulate, value_key, cipher, sent}
use Rattle.scheme.specs.Terms.{secret}
use Rattle.scheme.specs.Yao.{yao}
use Rattle.scheme.proofs.Lists.{conses, equal_tabulate}
use Rattle.scheme.proofs.Opens.{text_value}

-- pairs in a row
module _ {X : Type 0} (f g : ℕ → X) where
  pairs_size : (a n : ℕ) → length (flat_map (λ w. f w ∷ g w ∷ []) (range_with_len a n)) ≡ 2 * n
  pairs_size a zero = refl
  pairs_size a (suc n) = omega (arith, pairs_size (a + 1) n)

  pairs_first : (a n i : ℕ) (d : X) → i < n → get_or (flat_map (λ w. f w ∷ g w ∷ []) (range_with_len a n)) (2 * i) d ≡ f (a + i)
  pairs_first a zero i d below = absurd (omega arith)
  pairs_first a (suc n) zero d below = ap f (sym (add-zero a))
  pairs_first a (suc n) (suc i) d below =
      let e : 2 * suc i ≡ suc (suc (2 * i)) = omega arith in
      let q : a + suc i ≡ a + 1 + i = omega arith in
      rw (e, q) (pairs_first (a + 1) n i d (omega arith))

  pairs_second : (a n i : ℕ) (d : X) → i < n → get_or (flat_map (λ w. f w ∷ g w ∷ []) (range_with_len a n)) (2 * i + 1) d ≡ g (a + i)
  pairs_second a zero i d below = absurd (omega arith)
  pairs_second a (suc n) zero d below = ap g (sym (add-zero a))
  pairs_second a (suc n) (suc i) d below =
      let e : 2 * suc i + 1 ≡ suc (suc (2 * i + 1)) = omega arith in
      let q : a + suc i ≡ a + 1 + i = omega arith in
      rw (e, q) (pairs_second (a + 1) n i d (omega arith))

drop_tabulate : {X : Type 0} (f : ℕ → X) (n o : ℕ) (d : X) → o ≤ n → drop o (tabulate n f) ≡ tabulate (n - o) (λ i. f (o + i))
drop_tabulate f n o d within =
    let size : length (drop o (tabulate n f)) ≡ n - o = length-drop o (tabulate n f) ∙ ap (λ m. m - o) (length-map-range_with_len f 0 n) in
    ext_get_or d (drop o (tabulate n f)) (tabulate (n - o) (λ i. f (o + i))) (size ∙ sym (length-map-range_with_len (λ i. f (o + i)) 0 (n - o))) (λ i below.
    let few : i < n - o = omega arith in
    get_or-drop o (tabulate n f) i d ∙ get_or-map-range_with_len f 0 n (o + i) (o + i) d (omega arith) (omega arith)
    ∙ sym (get_or-map-range_with_len (λ i. f (o + i)) 0 (n - o) i i d few (omega arith)))

-- all keys of these are sixteen bytes
module _ (c : Circuit) (good : WellFormed c) (ws : List WireKeys) (keyed : (k : Key) → Block (key_of ws k)) where
  pairs_blocks : (a n : ℕ) → AllByRecursion Block (flat_map (λ w. key_for c ws w false ∷ key_for c ws w true ∷ []) (range_with_len a n))
  pairs_blocks a zero = tt
  pairs_blocks a (suc n) = (keyed (value_key yao c (coins_of ws) a false), (keyed (value_key yao c (coins_of ws) a true), pairs_blocks (a + 1) n))

  -- the key of each value is chosen
  pair_at : (i : ℕ) (b : Bool) → i < c.opener → get_or (notary_keys c ws) (2 * i + bit b) [] ≡ key_for c ws i b
  pair_at i false below =
      let e : 2 * i + 0 ≡ 2 * i = omega arith in
      let z : 0 + i ≡ i = omega arith in
      rw e (pairs_first (λ w. key_for c ws w false) (λ w. key_for c ws w true) 0 c.opener i [] below ∙ ap (λ j. key_for c ws j false) z)
  pair_at i true below =
      let z : 0 + i ≡ i = omega arith in
      pairs_second (λ w. key_for c ws w false) (λ w. key_for c ws w true) 0 c.opener i [] below ∙ ap (λ j. key_for c ws j true) z

  module _ (vs : List Bool) (fit : length vs ≡ c.opener) where
    chosen_is : chosen (notary_keys c ws) vs ≡ tabulate c.opener (λ w. key_for c ws w (at vs w))
    chosen_is =
        ap (λ n. tabulate n (λ i. get_or (notary_keys c ws) (2 * i + bit (at vs i)) [])) fit
        ∙ equal_tabulate (λ i. get_or (notary_keys c ws) (2 * i + bit (at vs i)) []) (λ w. key_for c ws w (at vs w)) c.opener (λ i below. pair_at i (at vs i) below)

    choice_is : choice (notary_keys c ws) vs ≡ Ok (chosen (notary_keys c ws) vs)
    choice_is =
        rw (eq-eqb (length (notary_keys c ws)) (2 * length vs) (omega (arith, pairs_size (λ w. key_for c ws w false) (λ w. key_for c ws w true) 0 c.opener)))

    pub notarized_is : notarized (keys_file (notary_keys c ws)) (map bit vs) ≡ Ok (keys_file (tabulate c.opener (λ w. key_for c ws w (at vs w))))
    notarized_is =
        let ps = notary_keys c ws in
        let size = pairs_size (λ w. key_for c ws w false) (λ w. key_for c ws w true) 0 c.opener in
        then_is (λ ps. values_text (length ps / 2) (map bit vs) and_then λ vs. choice ps vs and_then λ ks. Ok (keys_file ks))
        (file_back ps (omega (arith, good.0, good.1, size)) (whole_blocks ps (pairs_blocks 0 c.opener)))
        ∙ then_is (λ vs. choice ps vs and_then λ ks. Ok (keys_file ks)) (values_back (length ps / 2) vs (omega (arith, fit, size)))
        ∙ then_is (λ ks. Ok (keys_file ks)) choice_is ∙ ap (λ ks. Ok (keys_file ks)) chosen_is

-- of the keys of all inputs the last are the maker's
pub makers_of : (c : Circuit) → WellFormed c → (ws : List WireKeys) (xs : List Bool) →
    drop c.opener (tabulate c.inputs (λ w. key_for c ws w (at xs w))) ≡ maker_keys c ws (drop c.opener xs)
makers_of c good ws xs =
    drop_tabulate (λ w. key_for c ws w (at xs w)) c.inputs c.opener [] good.1
    ∙ equal_tabulate (λ i. key_for c ws (c.opener + i) (at xs (c.opener + i))) (λ i. key_for c ws (c.opener + i) (at (drop c.opener xs) i)) (c.inputs - c.opener)
    (λ i below. ap (key_for c ws (c.opener + i)) (sym (get_or-drop c.opener xs i false)))

-- rows of terms as bytes
module _ (h : TextHash) (hashed : BlockHash h) (ws : List WireKeys) (keyed : (k : Key) → Block (key_of ws k)) where
  abbrev d : Drawn Key
  d = interpretation h hashed ws keyed

  row_is : (r : Row) → value d (cipher secret r) ≡ closed_row h ws r
  unfolding value
  row_is r = ap (λ (p : List (List ℕ) × List ℕ). xor_bytes (key_of ws r.holds) (d.hash p.0 p.1)) (text_value d r.keys r.tweak)

  table_is : (rs : List Row) → map (λ t. value d t) (map (cipher secret) rs) ≡ map (closed_row h ws) rs
  table_is [] = refl
  table_is (r ∷ rs) = conses (row_is r) (table_is rs)

  pub tables_are : (ts : List (List Row)) → map (map (λ t. value d t)) (map (map (cipher secret)) ts) ≡ map (map (closed_row h ws)) ts
  tables_are [] = refl
  tables_are (t ∷ ts) = conses (table_is t) (tables_are ts)

  module _ (c : Circuit) (good : WellFormed c) (xs : List Bool) where
    -- the keys that are sent
    pub keys_are : map (λ t. value d t) (sent yao c xs (coins_of ws)).keys ≡ tabulate c.inputs (λ w. key_for c ws w (at xs w))
    unfolding value
    keys_are = map-map (λ t. value d t) (λ w. secret (value_key yao c (coins_of ws) w (at xs w))) (range_with_len 0 c.inputs)

    pub openers_are : take c.opener (map (λ t. value d t) (sent yao c xs (coins_of ws)).keys) ≡ tabulate c.opener (λ w. key_for c ws w (at xs w))
    openers_are = ap (take c.opener) keys_are ∙ take-map-range_with_len (λ w. key_for c ws w (at xs w)) 0 c.inputs c.opener good.1

    pub makers_are : drop c.opener (map (λ t. value d t) (sent yao c xs (coins_of ws)).keys) ≡ maker_keys c ws (drop c.opener xs)
    makers_are = ap (drop c.opener) keys_are ∙ makers_of c good ws xs

-- what a maker writes
pub garbled_is : (h : TextHash) (c : Circuit) (xs : List Bool) (bytes : List ℕ) (ws : List WireKeys) → length xs ≡ c.inputs → drawn (wire_count c) bytes ≡ Ok ws →
    garbled h c (drop c.opener xs) bytes ≡ Ok (files_of c ws h (drop c.opener xs))
garbled_is h c xs bytes ws fit is =
    rw (eq-eqb (length (drop c.opener xs)) (c.inputs - c.opener) (length-drop c.opener xs ∙ ap (λ n. n - c.opener) fit))
    (then_is (λ ws. Ok (files_of c ws h (drop c.opener xs))) is)

pub garbled_refused : (h : TextHash) (c : Circuit) (xs : List Bool) (bytes : List ℕ) (n : ℕ) → length xs ≡ c.inputs → drawn (wire_count c) bytes ≡ Err n →
    garbled h c (drop c.opener xs) bytes ≡ Err n
garbled_refused h c xs bytes n fit is =
    rw (eq-eqb (length (drop c.opener xs)) (c.inputs - c.opener) (length-drop c.opener xs ∙ ap (λ n. n - c.opener) fit))
    (then_err (λ ws. Ok (files_of c ws h (drop c.opener xs))) is)
