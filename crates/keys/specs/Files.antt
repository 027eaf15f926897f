-- Files of keys, and what the notary gives. Assumes nothing.
use Rattle.std.specs.Prelude.{◌≡◌, ℕ, zero, suc, ◌+◌, ◌*◌, ◌/◌, Bool, ◌&&◌, List, [], ◌∷◌, ◌++◌, length, take, drop, Ok, ◌==◌, nat_le, slice_index, slice_index_or}
use Rattle.std.specs.List.{flat_map}
use Rattle.std.specs.Int.Digits.{number_from_digits}
use Rattle.circuit.specs.Circuit.{at}
use Rattle.circuit.specs.Numbers.{bit, digits}
use Rattle.circuit.specs.Refusals.{Answer, require, ◌and_then◌}
use Rattle.circuit.specs.declared.refusals.Refusal.TheVariants.{Malformed, Count, Values}
use Rattle.bits.specs.Texts.{values_text}
use Rattle.scheme.specs.Garbling.{tabulate}

-- two for each of the most inputs
abbrev pub most_keys : ℕ
most_keys = 2048

-- a kind, how many, and the keys one after the other
abbrev pub keys_file : List (List ℕ) → List ℕ
keys_file ks = 2 ∷ (digits 256 2 (length ks) ++ flat_map (λ k. k) ks)

abbrev pub written_keys : List (List ℕ) → Answer (List ℕ)
written_keys ks = require (nat_le (length ks) most_keys) Count (Ok (keys_file ks))

-- n times sixteen bytes
unfoldable pub sixteens : ℕ → List ℕ → List (List ℕ)
sixteens zero xs = []
sixteens (suc n) xs = take 16 xs ∷ sixteens n (drop 16 xs)

abbrev pub key_count : List ℕ → ℕ
key_count xs = number_from_digits 256 (take 2 (drop 1 xs))

-- a list of keys is read whole, and of its faults the lowest number wins
abbrev pub parse_keys : List ℕ → Answer (List (List ℕ))
parse_keys xs =
    require (slice_index xs 0 == 2 && length xs == 3 + 16 * key_count xs) Malformed (require (nat_le (key_count xs) most_keys) Count
    (Ok (sixteens (key_count xs) (drop 3 xs))))

-- as many keys as are told
abbrev pub keys_for : ℕ → List ℕ → Answer (List (List ℕ))
keys_for n xs = parse_keys xs and_then λ ks. require (length ks == n) Values (Ok ks)

-- The notary is told both keys of each wire, that of value 0 first, and the values, and gives the key of each value.
abbrev pub chosen : List (List ℕ) → List Bool → List (List ℕ)
chosen pairs vs = tabulate (length vs) (λ i. slice_index_or pairs (2 * i + bit (at vs i)) [])

abbrev pub choice : List (List ℕ) → List Bool → Answer (List (List ℕ))
choice pairs vs = require (length pairs == 2 * length vs) Values (Ok (chosen pairs vs))

-- what the notary gives, from its two files: keys, then values
abbrev pub notarized : List ℕ → List ℕ → Answer (List ℕ)
notarized keys values = parse_keys keys and_then λ ps. values_text (length ps / 2) values and_then λ vs. choice ps vs and_then λ ks. Ok (keys_file ks)

-- it is the same for all pairs of which the same keys are chosen
abbrev pub ByChosenAlone : List Bool → Type 0
ByChosenAlone vs = (ps qs : List (List ℕ)) → length ps ≡ length qs → chosen ps vs ≡ chosen qs vs → choice ps vs ≡ choice qs vs
