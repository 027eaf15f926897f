-- Coins and keys from drawn bytes (a random tape), and what is true of them. Assumes nothing.
use Rattle.std.specs.Prelude.{◌≡◌, ℕ, zero, suc, ◌+◌, ◌*◌, ◌/◌, ◌%◌, ◌<◌, Bool, true, false, cond, ◌||◌, List, [], ◌∷◌, map, length, take, drop, replicate, Ok, Err, ◌==◌, nat_le, slice_index, slice_index_or, slice_set}
use Rattle.std.specs.Int.Digits.{number_from_digits}
use Rattle.std.specs.List.{AllByRecursion}
use Rattle.circuit.specs.Format.{Part}
use Rattle.circuit.specs.Numbers.{bit}
use Rattle.circuit.specs.Refusals.{Answer, ◌and_then◌}
use Rattle.scheme.specs.Bytes.{Block, colour_of}
use Rattle.scheme.specs.Garbling.{Key}
use Rattle.keys.specs.declared.wires.WireKeys.{WireKeys}

abbrev pub Bytes : List ℕ → Type 0
Bytes xs = AllByRecursion (λ b. b < 256) xs

-- the 127 bits of a key before its colour, as a number
abbrev pub stem : List ℕ → ℕ
stem k = number_from_digits 256 k / 2

-- sixteen bytes with the last bit replaced by a colour
abbrev pub coloured : Bool → List ℕ → List ℕ
coloured c k = slice_set k 15 (2 * (slice_index k 15 / 2) + bit c)

-- a stem is among those drawn before
abbrev pub among : List ℕ → ℕ → Bool
among [] s = false
among (t ∷ ts) s = t == s || among ts s

-- the number of the refusal of drawn bytes that are used up
abbrev pub used_up : ℕ
used_up = 6

-- the first of at most n times sixteen bytes whose stem was not drawn before, and what is left
unfoldable pub fresh : List ℕ → ℕ → List ℕ → Part (List ℕ)
fresh seen zero xs = Err used_up
fresh seen (suc n) xs = cond (nat_le 16 (length xs)) (cond (among seen (stem (take 16 xs))) (fresh seen n (drop 16 xs)) (Ok (take 16 xs, drop 16 xs))) (Err used_up)

-- a key is drawn, and drawn anew as long as there are bytes
abbrev pub draw_key : List ℕ → List ℕ → Part (List ℕ)
draw_key seen xs = fresh seen (length xs) xs

-- a coin is the last bit of a byte
abbrev pub coin_of : ℕ → Bool
coin_of b = b % 2 == 1

-- both keys of a wire: first that of colour 0
abbrev pub draw_keys : List ℕ → List ℕ → Part (List ℕ × List ℕ)
draw_keys seen xs = draw_key seen xs and_then λ z. draw_key (stem z.0 ∷ seen) z.1 and_then λ o. Ok ((z.0, o.0), o.1)

abbrev pub wire_of : ℕ → List ℕ × List ℕ → WireKeys
wire_of b ks = record { coin = coin_of b; zero = coloured false ks.0; one = coloured true ks.1 }

abbrev pub seen_with : List ℕ × List ℕ → List ℕ → List ℕ
seen_with ks seen = stem ks.1 ∷ stem ks.0 ∷ seen

-- n wires one after the other: a byte for the coin, then the keys
unfoldable pub draw_wires : ℕ → List ℕ → List ℕ → Answer (List WireKeys)
draw_wires zero seen xs = Ok []
draw_wires (suc n) seen [] = Err used_up
draw_wires (suc n) seen (b ∷ xs) = draw_keys seen xs and_then λ p. draw_wires n (seen_with p.0 seen) p.1 and_then λ ws. Ok (wire_of b p.0 ∷ ws)

-- coins and keys of n wires; what is left of the bytes is not looked at
abbrev pub drawn : ℕ → List ℕ → Answer (List WireKeys)
drawn n xs = draw_wires n [] xs

-- past the last wire
abbrev pub no_wire : WireKeys
no_wire = record { coin = false; zero = replicate 16 0; one = replicate 16 0 }

-- the bytes of a key by its name
abbrev pub key_of : List WireKeys → Key → List ℕ
key_of ws k = cond k.colour (slice_index_or ws k.wire no_wire).one (slice_index_or ws k.wire no_wire).zero

abbrev pub coins_of : List WireKeys → List Bool
coins_of ws = map (λ (w : WireKeys). w.coin) ws

-- what is true of all keys that are drawn
pub record Lawful (n : ℕ) (ws : List WireKeys) : Type 0 where
  pub size : length ws ≡ n
  -- a key is sixteen bytes, the last bit its colour
  pub blocks : (k : Key) → Block (key_of ws k)
  pub colours : (k : Key) → k.wire < n → colour_of (key_of ws k) ≡ k.colour
  -- no two have the same 127 bits
  pub apart : (k l : Key) → k.wire < n → l.wire < n → stem (key_of ws k) ≡ stem (key_of ws l) → k ≡ l

abbrev pub DrawsLawful : ℕ → List ℕ → Type 0
DrawsLawful n xs = Bytes xs → (ws : List WireKeys) → drawn n xs ≡ Ok ws → Lawful n ws
