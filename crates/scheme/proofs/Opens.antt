-- The opening of what is sent gives the circuit's result, for all coins, keys and hashes. Assumes nothing.
use Rattle.std.proofs.Common.{◌≡◌, ℕ, zero, suc, ◌+◌, ◌^◌, ◌<◌, Bool, List, [], ◌∷◌, ◌++◌, map, length, get_or, drop, sym, refl, ap, ◌∙◌, ap₂, arith}
use mathlib.Core.List.{map-map, zip_with}
use mathlib.Core.Path.{fun_ext}
use Rattle.std.specs.List.{range_with_len, AllByRecursion}
use Rattle.std.proofs.lemmas.List.FromFn.{get_or-map-range_with_len, map-range_with_len_more}
use Rattle.std.proofs.ByRecursion.{All-from_get_or}
use Rattle.std.proofs.lemmas.List.{append-nil, length-map, drop_more, drop_all, drop-drop, get_or-drop}
use Rattle.circuit.specs.Circuit.{Circuit, WellFormed, wire_count, no_gate, at, at_all, values, result}
use Rattle.circuit.specs.Numbers.{binary}
use Rattle.circuit.proofs.Numbers.{bits_binary, binary_lt}
use Rattle.scheme.specs.Bytes.{xor_bytes, colour_of, Drawn, value}
use Rattle.scheme.specs.Coins.{colour}
use Rattle.scheme.specs.Garbling.{Key, key, Scheme, text_of, tabulate, value_key, cipher, sent, active}
use Rattle.scheme.specs.Opening.{Tweak, open_row, open_gate, held_at, open_gates, decode, evaluate_by}
use Rattle.scheme.specs.Promises.{Right}
use Rattle.scheme.specs.Terms.{block, Term, secret, xor, pad}
use Rattle.scheme.specs.Yao.{gate_at, row_of, held_for, tables_by, yao_by, by_colour, outputs_only}
use Rattle.scheme.proofs.Blocks.{sound}
use Rattle.scheme.proofs.Colours.{xor_back}
use Rattle.scheme.proofs.Derived.{off}
use Rattle.scheme.proofs.Lists.{conses, equal_tabulate}
use Rattle.scheme.proofs.Rows.{input_value, gate_wires, wires_below, active_row, keys_held}
use Rattle.scheme.proofs.Tables.{row_entry}

pub text_value : (d : Drawn Key) (ks : List Key) (ns : List ℕ) → value d (text_of (map secret ks) ns) ≡ (map d.secrets ks, ns)
unfolding value
text_value d [] ns = refl
text_value d (k ∷ ks) ns = grind (arith, text_value d ks ns)

-- a pad added twice is gone
taken_off : (d : Drawn Key) (t u : Term Key block) → xor_bytes (value d (xor t u)) (value d u) ≡ value d t
unfolding value
taken_off d t u = sound d block (xor (xor t u) u) t (off t u)

module _ (coin : List Bool → ℕ → Bool) (tweak : Tweak) (decoded : Circuit → List ℕ) (c : Circuit) (good : WellFormed c) (xs coins : List Bool) (fit : length xs ≡ c.inputs) (d : Drawn Key)
    (shown : (k : Key) → k.wire < wire_count c → colour_of (d.secrets k) ≡ k.colour) where
  abbrev S : Scheme Key
  S = yao_by coin by_colour tweak decoded

  -- the colour of the active key of a wire, and its bytes
  abbrev shade : ℕ → Bool
  shade w = (active S c xs coins w).colour

  abbrev held : ℕ → List ℕ
  held w = d.secrets (active S c xs coins w)

  abbrev tables : List (List (List ℕ))
  tables = map (map (λ t. value d t)) (map (map (cipher secret)) (tables_by by_colour tweak c (coin coins)))

  held_of : (n : ℕ) (ws : List ℕ) → AllByRecursion (λ w. w < n) ws → held_at (tabulate n held) ws ≡ map held ws
  held_of n [] all = refl
  held_of n (w ∷ ws) all = grind (arith, conses, get_or-map-range_with_len, held_of n ws all.1)

  colours_held : (ws : List ℕ) → AllByRecursion (λ w. w < wire_count c) ws → map colour_of (map held ws) ≡ map shade ws
  colours_held [] all = refl
  colours_held (w ∷ ws) all = grind (arith, conses, colours_held ws all.1)

  secrets_held : (ws : List ℕ) → map d.secrets (map (active S c xs coins) ws) ≡ map held ws
  secrets_held [] = refl
  secrets_held (w ∷ ws) = ap (λ ks. held w ∷ ks) (secrets_held ws)

  module _ (k : ℕ) (below : k < length c.gates) where
    abbrev wires : List ℕ
    wires = (gate_at c k).wires

    abbrev colours : List Bool
    colours = map shade wires

    sized : length colours ≡ length wires
    sized = length-map wires shade

    -- the row that the colours name
    row_there : get_or (get_or tables k []) (binary colours) [] ≡ value d (cipher secret (row_of tweak c k colours (held_for c (coin coins) k colours)))
    row_there =
        let n = length wires in
        let small : binary colours < 2 ^ n = rw sized at (binary_lt colours) in
        ap (λ tables. get_or (get_or tables k []) (binary colours) []) (map-map (map (λ t. value d t)) (map (cipher secret)) (tables_by by_colour tweak c (coin coins))
        ∙ ap (λ f. map f (tables_by by_colour tweak c (coin coins))) (fun_ext (map-map (λ t. value d t) (cipher secret))))
        ∙ row_entry tweak c (λ k. by_colour (coin coins) (gate_at c k)) (λ r. value d (cipher secret r)) (held_for c (coin coins)) k (binary colours) [] below small
        ∙ ap (λ cs. value d (cipher secret (row_of tweak c k cs (held_for c (coin coins) k cs)))) (bits_binary n colours sized)

    -- its pad
    pad_there : d.hash (map held wires) (tweak k colours) ≡ value d (pad (text_of (map secret (zip_with key wires colours)) (tweak k colours)))
    unfolding value
    pad_there =
        sym (ap (λ (p : List (List ℕ) × List ℕ). d.hash p.0 p.1)
        (text_value d (zip_with key wires colours) (tweak k colours)
        ∙ ap (λ (ks : List (List ℕ)). (ks, tweak k colours)) (ap (map d.secrets) (keys_held shade wires) ∙ secrets_held wires)))

    gate_opens : open_gate tweak d.hash k (held_at (tabulate (c.inputs + k) held) wires) (get_or tables k []) ≡ held (c.inputs + k)
    unfolding value
    gate_opens =
        ap (λ ks. open_gate tweak d.hash k ks (get_or tables k [])) (held_of (c.inputs + k) wires (gate_wires c good k below))
        ∙ ap (open_row tweak d.hash k (map held wires) (get_or tables k [])) (colours_held wires (wires_below c good k below))
        ∙ ap₂ xor_bytes row_there pad_there
        ∙ taken_off d (secret (row_of tweak c k colours (held_for c (coin coins) k colours)).holds) (pad (text_of (map secret (zip_with key wires colours)) (tweak k colours)))
        ∙ ap (λ b. d.secrets (key (c.inputs + k) b)) (active_row c good xs fit (coin coins) k below)

  -- gate after gate
  gates_open : (n k : ℕ) → k + n ≡ length c.gates → open_gates tweak d.hash k (drop k c.gates) (drop k tables) (tabulate (c.inputs + k) held) ≡ tabulate (wire_count c) held
  unfolding open_gates
  gates_open zero k end =
      let all : k ≡ length c.gates = omega arith in
      ap (λ gs. open_gates tweak d.hash k gs (drop k tables) (tabulate (c.inputs + k) held)) (drop_all k c.gates (omega arith))
      ∙ ap (λ m. tabulate (c.inputs + m) held) all
  gates_open (suc n) k end =
      let below : k < length c.gates = omega arith in
      ap (λ gs. open_gates tweak d.hash k gs (drop k tables) (tabulate (c.inputs + k) held)) (drop_more c.gates k no_gate below)
      ∙ ap (λ rows. open_gates tweak d.hash (k + 1) (drop (k + 1) c.gates) (drop 1 (drop k tables))
      (tabulate (c.inputs + k) held ++ (open_gate tweak d.hash k (held_at (tabulate (c.inputs + k) held) (gate_at c k).wires) rows ∷ [])))
      (get_or-drop k tables 0 [] ∙ ap (λ j. get_or tables j []) (omega arith))
      ∙ ap₂ (λ (rest : List (List (List ℕ))) (ks : List (List ℕ)). open_gates tweak d.hash (k + 1) (drop (k + 1) c.gates) rest ks)
      (drop-drop 1 k tables)
      (ap (λ bytes. tabulate (c.inputs + k) held ++ (bytes ∷ [])) (gate_opens k below) ∙ sym (map-range_with_len_more held 0 (c.inputs + k) (c.inputs + k) (omega arith))
      ∙ ap (λ m. tabulate m held) (omega arith))
      ∙ gates_open n (k + 1) (omega arith)

  -- meanings after those of the outputs are not read
  outputs_decode : (ws more : List ℕ) → AllByRecursion (λ w. w < wire_count c) ws → decode (map (coin coins) (ws ++ more)) (held_at (tabulate (wire_count c) held) ws) ≡ at_all (values c xs) ws
  unfolding zip_with
  outputs_decode [] [] all = refl
  outputs_decode [] (v ∷ more) all = refl
  outputs_decode (w ∷ ws) more all =
      conses
      (ap (λ bytes. colour (coin coins w) (colour_of bytes)) (get_or-map-range_with_len held 0 (wire_count c) w w [] all.0 (omega arith))
      ∙ ap (colour (coin coins w)) (shown (active S c xs coins w) all.0) ∙ xor_back (coin coins w) (at (values c xs) w))
      (outputs_decode ws more all.1)

  inputs_held : map (λ t. value d t) (sent S c xs coins).keys ≡ tabulate (c.inputs + 0) held
  unfolding value
  inputs_held =
      map-map (λ t. value d t) (λ w. secret (value_key S c coins w (at xs w))) (range_with_len 0 c.inputs)
      ∙ equal_tabulate (λ w. d.secrets (value_key S c coins w (at xs w))) held c.inputs
      (λ w below. ap (λ v. d.secrets (value_key S c coins w v)) (sym (input_value c good xs fit w below)))
      ∙ ap (λ n. tabulate n held) (omega arith)

  opened : (more : List ℕ) →
      evaluate_by tweak d.hash c (map (λ t. value d t) (sent S c xs coins).keys) tables (map (coin coins) (c.outputs ++ more)) ≡ result c xs
  opened more =
      ap (λ ks. decode (map (coin coins) (c.outputs ++ more)) (held_at ks c.outputs))
      (ap (open_gates tweak d.hash 0 c.gates tables) inputs_held ∙ gates_open (length c.gates) 0 (omega arith))
      ∙ outputs_decode c.outputs more (All-from_get_or (λ w. w < wire_count c) c.outputs 0 good.5)

-- whatever coin a wire goes by, whatever closes rows besides their keys, and whatever meanings follow those of the outputs
pub right : (coin : List Bool → ℕ → Bool) (tweak : Tweak) (more : Circuit → List ℕ) → Right (yao_by coin by_colour tweak (λ c. c.outputs ++ more c))
unfolding value
right coin tweak more c xs coins fits d shown = opened coin tweak (λ c. c.outputs ++ more c) c fits.well_formed xs coins fits.inputs d shown (more c)

pub outputs_right : (coin : List Bool → ℕ → Bool) (tweak : Tweak) → Right (yao_by coin by_colour tweak outputs_only)
unfolding value
outputs_right coin tweak c xs coins fits d shown =
    ap (λ ws. evaluate_by tweak d.hash c (map (λ t. value d t) (sent (yao_by coin by_colour tweak outputs_only) c xs coins).keys)
    (map (map (λ t. value d t)) (sent (yao_by coin by_colour tweak outputs_only) c xs coins).tables) (map (coin coins) ws)) (sym (append-nil c.outputs))
    ∙ opened coin tweak outputs_only c fits.well_formed xs coins fits.inputs d shown []
