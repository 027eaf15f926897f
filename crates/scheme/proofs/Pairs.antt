-- Paired coins do what pairing is for. Assumes nothing.
use Rattle.std.proofs.Common.{◌≡◌, ℕ, ◌<◌, Bool, false, List, map, length, get_or, sym, ap, ◌∙◌, arith}
use Rattle.std.specs.List.{zip}
use Rattle.std.proofs.lemmas.List.FromFn.{length-map-range_with_len, get_or-map-range_with_len, fill_by_all}
use Rattle.std.proofs.lemmas.List.{ext_get_or, get_or-map, length-map}
use Rattle.std.proofs.lemmas.Slice.Zip.{length-zip, get_or-zip}
use Rattle.circuit.specs.Circuit.{Circuit, WellFormed, wire_count, at, at_all, values, result}
use Rattle.circuit.proofs.Values.{assigned}
use Rattle.scheme.specs.Coins.{◌⊕◌, active_colour, paired_by, coins_of_pair, Paired}
use Rattle.scheme.proofs.Colours.{xor_twice}
use Rattle.scheme.proofs.Rows.{input_value}

paired_size : (c : Circuit) (xs ys coins : List Bool) → length (coins_of_pair c xs ys coins) ≡ length coins
paired_size c xs ys coins = grind (arith, length-map-range_with_len)

paired_at : (c : Circuit) (xs ys coins : List Bool) (w : ℕ) → w < length coins → at (coins_of_pair c xs ys coins) w ≡ active_colour c xs coins w ⊕ at (values c ys) w
paired_at c xs ys coins w below = grind (arith, get_or-map-range_with_len)

keeps_colours : (c : Circuit) (xs ys coins : List Bool) (w : ℕ) → w < length coins → active_colour c ys (coins_of_pair c xs ys coins) w ≡ active_colour c xs coins w
keeps_colours c xs ys coins w below = grind (arith, paired_at, xor_twice)

pairs_back : (c : Circuit) (xs ys coins : List Bool) → coins_of_pair c ys xs (coins_of_pair c xs ys coins) ≡ coins
pairs_back c xs ys coins =
    let there = coins_of_pair c xs ys coins in
    let size = paired_size c xs ys coins in
    sym (fill_by_all (λ w. at there w ⊕ at (values c ys) w ⊕ at (values c xs) w) coins (length there) false (sym size) (λ w below.
    let within : w < length coins = omega (arith, size) in
    sym (ap (λ b. b ⊕ at (values c xs) w) (keeps_colours c xs ys coins w within) ∙ xor_twice (at coins w) (at (values c xs) w))))

keeps_coins : (c : Circuit) (xs ys coins : List Bool) (w : ℕ) → w < length coins → at (values c xs) w ≡ at (values c ys) w → at (coins_of_pair c xs ys coins) w ≡ at coins w
keeps_coins c xs ys coins w below same = grind (arith, paired_at, xor_twice)

-- wires with the same values keep their coins
kept_all : (c : Circuit) (xs ys coins : List Bool) (ws : List ℕ) → ((k : ℕ) → k < length ws → get_or ws k 0 < length coins) →
    at_all (values c xs) ws ≡ at_all (values c ys) ws → at_all (coins_of_pair c xs ys coins) ws ≡ at_all coins ws
kept_all c xs ys coins ws made same =
    ext_get_or false (at_all (coins_of_pair c xs ys coins) ws) (at_all coins ws) (length-map ws (at (coins_of_pair c xs ys coins)) ∙ sym (length-map ws (at coins))) (λ k below.
    let within : k < length ws = omega (arith, length-map ws (at (coins_of_pair c xs ys coins))) in
    let here : at (values c xs) (get_or ws k 0) ≡ at (values c ys) (get_or ws k 0) =
    sym (get_or-map (at (values c xs)) ws k 0 false within) ∙ ap (λ vs. at vs k) same ∙ get_or-map (at (values c ys)) ws k 0 false within in
    get_or-map (at (coins_of_pair c xs ys coins)) ws k 0 false within ∙ keeps_coins c xs ys coins (get_or ws k 0) (made k within) here ∙ sym (get_or-map (at coins) ws k 0 false within))

-- wire by wire
paired_zip : (coins before after : List Bool) → length before ≡ length coins → length after ≡ length coins →
    map (λ (w : (Bool × Bool) × Bool). (w.0).0 ⊕ (w.0).1 ⊕ w.1) (zip (zip coins before) after) ≡ paired_by coins before after
paired_zip coins before after before_fits after_fits =
    let paired : (Bool × Bool) × Bool → Bool = λ w. (w.0).0 ⊕ (w.0).1 ⊕ w.1 in
    let both = zip coins before in
    let both_size : length both ≡ length coins = length-zip coins before ∙ omega (arith, before_fits) in
    let size : length (zip both after) ≡ length coins = length-zip both after ∙ omega (arith, both_size) in
    fill_by_all (λ w. at coins w ⊕ at before w ⊕ at after w) (map paired (zip both after)) (length coins) false (length-map (zip both after) paired ∙ size) (λ w below.
    get_or-map paired (zip both after) w ((false, false), false) false (omega arith)
    ∙ ap paired (get_or-zip both after w ((false, false), false) (omega arith) (omega arith))
    ∙ ap (λ p. paired (p, at after w)) (get_or-zip coins before w (false, false) below (omega arith)))

-- where all that is given fits
module _ (c : Circuit) (xs ys coins : List Bool) (good : WellFormed c) (xs_fit : length xs ≡ c.inputs) (ys_fit : length ys ≡ c.inputs)
    (coins_fit : length coins ≡ wire_count c) where
  pub pairs : Paired c xs ys coins (coins_of_pair c xs ys coins)
  pairs =
      record {
        size = paired_size c xs ys coins ∙ coins_fit;
        colours = λ w below. keeps_colours c xs ys coins w (omega arith);
        back = pairs_back c xs ys coins;
        kept = λ w below same. keeps_coins c xs ys coins w (omega arith) same;
        inputs = λ w below same. keeps_coins c xs ys coins w (omega arith)
            (input_value c good xs xs_fit w below ∙ same ∙ sym (input_value c good ys ys_fit w below));
      }

  pub kept_outputs : result c xs ≡ result c ys → at_all (coins_of_pair c xs ys coins) c.outputs ≡ at_all coins c.outputs
  kept_outputs one_result = kept_all c xs ys coins c.outputs (λ k below. rw coins_fit (good.5 k below)) one_result

  pub zipped : map (λ (w : (Bool × Bool) × Bool). (w.0).0 ⊕ (w.0).1 ⊕ w.1) (zip (zip coins (values c xs)) (values c ys)) ≡ coins_of_pair c xs ys coins
  zipped = grind (arith, paired_zip, assigned)
