-- Tables and meanings as bytes: what writes them, and what is read from any bytes, refusals included. Assumes nothing.
use Rattle.std.specs.Prelude.{ℕ, ◌+◌, ◌*◌, ◌/◌, Bool, true, cond, not, ◌&&◌, List, [], ◌∷◌, ◌++◌, length, take, drop, Ok, Err, ◌==◌, nat_le, slice_index}
use Rattle.std.specs.List.{flat_map}
use Rattle.std.specs.Int.Digits.{number_from_digits}
use Rattle.circuit.specs.Circuit.{at}
use Rattle.circuit.specs.Format.{Part, many, ended}
use Rattle.circuit.specs.Numbers.{digits, binary, bits}
use Rattle.circuit.specs.Refusals.{Answer, require, ◌and_then◌}
use Rattle.circuit.specs.declared.refusals.Refusal.TheVariants.{Malformed}
use Rattle.keys.specs.Files.{sixteens}
use Rattle.scheme.specs.Garbling.{tabulate}

-- a table: its kind, the gate's number, four rows
abbrev pub table_bytes : ℕ → List (List ℕ) → List ℕ
table_bytes k rows = 3 ∷ (digits 256 4 k ++ flat_map (λ r. r) rows)

-- all tables, gate by gate, from number k on
unfoldable pub tables_file : ℕ → List (List (List ℕ)) → List ℕ
tables_file k [] = []
tables_file k (t ∷ ts) = table_bytes k t ++ tables_file (k + 1) ts

-- the number of the refusal of a table that is not the next gate's
abbrev pub not_next : ℕ
not_next = 5

-- a table is read whole, and of its faults the lowest number wins
abbrev pub table : ℕ → List ℕ → Part (List (List ℕ))
table k xs =
    require (nat_le 69 (length xs) && slice_index xs 0 == 3) Malformed (cond (number_from_digits 256 (take 4 (drop 1 xs)) == k)
    (Ok (sixteens 4 (drop 5 xs), drop 69 xs)) (Err not_next))

-- the tables of n gates and nothing else
abbrev pub parse_tables : ℕ → List ℕ → Answer (List (List (List ℕ)))
parse_tables n xs = many table n 0 xs and_then ended

-- bits eight to a byte, the first the highest, filled with 0
abbrev pub packed : List Bool → List ℕ
packed ms = tabulate ((length ms + 7) / 8) (λ i. binary (tabulate 8 (λ j. at ms (8 * i + j))))

-- meanings: a kind, how many, and a bit for each
abbrev pub meanings_file : List Bool → List ℕ
meanings_file ms = 4 ∷ (digits 256 2 (length ms) ++ packed ms)

-- all bits of some bytes
abbrev pub unpacked : List ℕ → List Bool
unpacked bs = flat_map (bits 8) bs

unfoldable pub none_set : List Bool → Bool
none_set [] = true
none_set (b ∷ bs) = not b && none_set bs

-- as many meanings as are told, or they are malformed: by their kind, their count, their length or what fills the last byte
abbrev pub parse_meanings : ℕ → List ℕ → Answer (List Bool)
parse_meanings n xs =
    require (slice_index xs 0 == 4 && length xs == 3 + (n + 7) / 8 && number_from_digits 256 (take 2 (drop 1 xs)) == n && none_set (drop n (unpacked (drop 3 xs)))) Malformed
    (Ok (take n (unpacked (drop 3 xs))))
