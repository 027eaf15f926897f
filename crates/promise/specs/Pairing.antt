-- The pairing of drawn bytes and a hash for two inputs: coins and closed rows become those of the other input, and all keys stay. Assumes nothing.
use Rattle.std.specs.Prelude.{ℕ, ◌+◌, ◌-◌, ◌*◌, ◌/◌, Bool, List, [], ◌∷◌, ◌++◌, length, take, Ok, Err}
use mathlib.Core.List.{zip_with}
use Rattle.circuit.specs.Circuit.{Circuit, wire_count, at, values}
use Rattle.circuit.specs.Format.{Part}
use Rattle.circuit.specs.Numbers.{bit}
use Rattle.garble.specs.Garbled.{TextHash}
use Rattle.keys.specs.Drawing.{drawn, coin_of, draw_keys, seen_with}
use Rattle.keys.specs.declared.wires.WireKeys.{WireKeys}
use Rattle.scheme.specs.Coins.{◌⊕◌}
use Rattle.scheme.specs.Garbling.{tabulate}
use Rattle.promise.specs.Exchange.{held_at, exchanged_by}

-- a byte whose last bit is turned over, if it is told so
abbrev pub turned_over : Bool → ℕ → ℕ
turned_over f b = 2 * (b / 2) + bit (f ⊕ coin_of b)

-- what follows the keys of a wire is changed, and they are not; where they cannot be drawn nothing is
abbrev pub after_keys : (List ℕ × List ℕ → List ℕ → List ℕ) → List ℕ → Part (List ℕ × List ℕ) → List ℕ
after_keys change xs (Ok p) = take (length xs - length p.1) xs ++ change p.0 p.1
after_keys change xs (Err n) = xs

-- drawn bytes in which some wires' coins are turned over
unfoldable pub recoined : List Bool → List ℕ → List ℕ → List ℕ
recoined [] seen xs = xs
recoined (f ∷ fs) seen [] = []
recoined (f ∷ fs) seen (b ∷ xs) = turned_over f b ∷ after_keys (λ ks ys. recoined fs (seen_with ks seen) ys) xs (draw_keys seen xs)

-- and what is drawn from them
abbrev pub recoined_wire : Bool → WireKeys → WireKeys
recoined_wire f w = record { coin = f ⊕ w.coin; zero = w.zero; one = w.one }

abbrev pub recoined_wires : List Bool → List WireKeys → List WireKeys
recoined_wires fs ws = zip_with recoined_wire fs ws

-- the wires whose values differ
abbrev pub differences : Circuit → List Bool → List Bool → List Bool
differences c xs ys = tabulate (wire_count c) (λ w. at (values c xs) w ⊕ at (values c ys) w)

-- the coins of these are turned over
abbrev pub paired_bytes : Circuit → List Bool → List Bool → List ℕ → List ℕ
paired_bytes c xs ys bytes = recoined (differences c xs ys) [] bytes

abbrev pub paired_wires : Circuit → List Bool → List Bool → List WireKeys → List WireKeys
paired_wires c xs ys ws = recoined_wires (differences c xs ys) ws

-- and the hash at their rows' texts is exchanged
abbrev pub paired_hash : Circuit → (xs ys : List Bool) → List ℕ → TextHash → TextHash
paired_hash c xs ys bytes h = exchanged_by c (held_at c) (λ ws. held_at c (paired_wires c xs ys ws)) h (drawn (wire_count c) bytes)
