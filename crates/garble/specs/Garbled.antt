-- The bytes that a maker sends: the scheme's rows with drawn keys, closed by a hash. Assumes nothing.
use Rattle.std.specs.Prelude.{ℕ, ◌+◌, ◌-◌, Bool, true, false, List, [], ◌∷◌, map, length, Ok, ◌==◌, slice_index}
use Rattle.std.specs.List.{range_with_len, flat_map}
use Rattle.circuit.specs.Circuit.{Circuit, wire_count, at}
use Rattle.circuit.specs.Refusals.{Answer, require, ◌and_then◌}
use Rattle.circuit.specs.declared.refusals.Refusal.TheVariants.{Values}
use Rattle.keys.specs.Drawing.{drawn, key_of, coins_of}
use Rattle.keys.specs.Files.{keys_file}
use Rattle.keys.specs.declared.wires.WireKeys.{WireKeys}
use Rattle.scheme.specs.Bytes.{Hash, xor_bytes}
use Rattle.scheme.specs.Garbling.{Row, tabulate, value_key, meanings}
use Rattle.scheme.specs.Yao.{yao}
use Rattle.sha256.specs.Pads.{row_text}
use Rattle.garble.specs.Formats.{tables_file, meanings_file}

-- a hash of texts: the pad of a row is that of its text
abbrev pub TextHash : Type 0
TextHash = List ℕ → List ℕ

abbrev pub pad_by : TextHash → Hash
pad_by h ks ns = h (row_text ks (slice_index ns 0) (slice_index ns 1))

-- a row as it is sent: the key in it, xored with the pad over its keys and its tweak
abbrev pub closed_row : TextHash → List WireKeys → Row → List ℕ
closed_row h ws r = xor_bytes (key_of ws r.holds) (pad_by h (map (key_of ws) r.keys) r.tweak)

-- the four files
pub record Files : Type 0 where
  -- both keys of each of the opener's inputs, that of value 0 first
  pub notary : List ℕ
  -- the keys of the maker's values
  pub maker : List ℕ
  pub tables : List ℕ
  pub meanings : List ℕ

module _ (c : Circuit) (ws : List WireKeys) where
  -- the key of a wire's value
  abbrev pub key_for : ℕ → Bool → List ℕ
  key_for w v = key_of ws (value_key yao c (coins_of ws) w v)

  abbrev pub notary_keys : List (List ℕ)
  notary_keys = flat_map (λ w. key_for w false ∷ key_for w true ∷ []) (range_with_len 0 c.opener)

  abbrev pub maker_keys : List Bool → List (List ℕ)
  maker_keys ys = tabulate (c.inputs - c.opener) (λ i. key_for (c.opener + i) (at ys i))

  abbrev pub closed_tables : TextHash → List (List (List ℕ))
  closed_tables h = map (map (closed_row h ws)) (yao.tables c (coins_of ws))

  abbrev pub files_of : TextHash → List Bool → Files
  files_of h ys =
      record {
        notary = keys_file notary_keys;
        maker = keys_file (maker_keys ys);
        tables = tables_file 0 (closed_tables h);
        meanings = meanings_file (meanings yao c (coins_of ws));
      }

-- what a maker makes of its values and drawn bytes: for other than as many values as its inputs 7, for too few bytes 6
abbrev pub garbled : TextHash → Circuit → List Bool → List ℕ → Answer Files
garbled h c ys bytes = require (length ys == c.inputs - c.opener) Values (drawn (wire_count c) bytes and_then λ ws. Ok (files_of c ws h ys))
