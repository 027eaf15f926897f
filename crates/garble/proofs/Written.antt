-- Tables and meanings that are written are read back. Assumes nothing.
use Rattle.std.proofs.Common.{◌≡◌, ℕ, zero, suc, ◌+◌, ◌*◌, ◌/◌, ◌^◌, ◌<◌, ◌≤◌, Bool, true, false, ◌⊎◌, List, [], ◌∷◌, ◌++◌, map, length, get_or, take, drop, Ok, sym, refl, ap, ◌∙◌, inl, inr, append_assoc, arith}
use Rattle.std.specs.List.{range_with_len, flat_map, AllByRecursion}
use Rattle.std.proofs.lemmas.List.FromFn.{length-map-range_with_len, get_or-map-range_with_len, take-map-range_with_len, fill_by_all}
use Rattle.std.proofs.ByRecursion.{All-from_get_or}
use Rattle.std.proofs.lemmas.List.{append-nil, drop_at, get_or-drop, get_or_past, length-append, take_at}
use Rattle.std.proofs.lemmas.Bool.{cases_lt, eq-eqb, le-leb}
use Rattle.circuit.specs.Circuit.{at}
use Rattle.circuit.specs.Format.{many}
use Rattle.circuit.specs.Numbers.{digits, binary}
use Rattle.circuit.proofs.AndThen.{then_is}
use Rattle.circuit.proofs.Numbers.{length_digits, number_digits, bits_binary}
use Rattle.keys.specs.Files.{sixteens}
use Rattle.keys.proofs.Filed.{whole_blocks, length_joined}
use Rattle.scheme.specs.Bytes.{Block}
use Rattle.scheme.specs.Garbling.{tabulate}
use Rattle.garble.specs.Formats.{table_bytes, tables_file, table, parse_tables, packed, meanings_file, unpacked, none_set, parse_meanings}
use Rattle.garble.proofs.Counts.{in_pieces}

-- keys with something behind them
sixteens_before : (ks : List (List ℕ)) (rest : List ℕ) → AllByRecursion Block ks → sixteens (length ks) (flat_map (λ k. k) ks ++ rest) ≡ ks
unfolding sixteens
sixteens_before [] rest blocks = refl
sixteens_before (k ∷ ks) rest blocks =
    let behind = flat_map (λ k. k) ks ++ rest in
    let size : length k ≡ 16 = blocks.0.0 in
    rw (append_assoc k (flat_map (λ k. k) ks) rest, take_at k behind 16 size, drop_at k behind 16 size, sixteens_before ks rest blocks.1)

table_back : (k : ℕ) (t : List (List ℕ)) (rest : List ℕ) → k < 256 ^ 4 → length t ≡ 4 → AllByRecursion Block t → table k (table_bytes k t ++ rest) ≡ Ok (t, rest)
table_back k t rest small four blocks =
    let number = digits 256 4 k in
    let rows = flat_map (λ r. r) t in
    let front = number ++ rows in
    let number_size : length number ≡ 4 = length_digits 256 4 k in
    let front_size : length front ≡ 68 = omega (arith, length-append number rows, length_joined t (whole_blocks t blocks)) in
    let long : 68 ≤ length (front ++ rest) = omega (arith, length-append front rest) in
    let first : take 4 (front ++ rest) ≡ number = ap (take 4) (append_assoc number rows rest) ∙ take_at number (rows ++ rest) 4 number_size in
    let behind : drop 4 (front ++ rest) ≡ rows ++ rest = ap (drop 4) (append_assoc number rows rest) ∙ drop_at number (rows ++ rest) 4 number_size in
    let keys : sixteens 4 (rows ++ rest) ≡ t = rw four at (sixteens_before t rest blocks) in
    rw (
      le-leb 69 (length (table_bytes k t ++ rest)) (omega arith),
      first,
      number_digits 256 4 k (omega arith) small,
      eq-eqb k k refl,
      behind,
      keys,
      drop_at front rest 68 front_size,
    )

-- tables of four rows
abbrev pub Four : List (List (List ℕ)) → Type 0
Four ts = AllByRecursion (λ t. (length t ≡ 4) × AllByRecursion Block t) ts

tables_before : (ts : List (List (List ℕ))) (k : ℕ) (rest : List ℕ) → Four ts → k + length ts ≤ 65536 → many table (length ts) k (tables_file k ts ++ rest) ≡ Ok (ts, rest)
unfolding many tables_file
tables_before [] k rest four few = refl
tables_before (t ∷ ts) k rest four few =
    let behind = tables_file (k + 1) ts ++ rest in
    ap (many table (suc (length ts)) k) (append_assoc (table_bytes k t) (tables_file (k + 1) ts) rest)
    ∙ then_is _ (table_back k t behind (omega arith) four.0.0 four.0.1) ∙ then_is _ (tables_before ts (k + 1) rest four.1 (omega arith))

pub tables_back : (ts : List (List (List ℕ))) → AllByRecursion (λ t. (length t ≡ 4) × AllByRecursion Block t) ts → length ts ≤ 65536 → parse_tables (length ts) (tables_file 0 ts) ≡ Ok ts
tables_back ts four few =
    then_is _ (ap (many table (length ts) 0) (sym (append-nil (tables_file 0 ts))) ∙ tables_before ts 0 [] four (omega arith))

-- the bits of packed bits are those, and 0 behind them
unpacked_packed : (ms : List Bool) → unpacked (packed ms) ≡ tabulate (8 * ((length ms + 7) / 8)) (at ms)
unpacked_packed ms = each 0 ((length ms + 7) / 8) ∙ in_pieces (at ms) 8 0 ((length ms + 7) / 8)
  where
    piece : ℕ → List Bool
    piece i = tabulate 8 (λ j. at ms (8 * i + j))

    each : (a m : ℕ) → unpacked (map (λ i. binary (piece i)) (range_with_len a m)) ≡ flat_map piece (range_with_len a m)
    each a zero = refl
    each a (suc m) = rw (bits_binary 8 (piece a) refl, each (a + 1) m)

none_set_all : (ms : List Bool) → AllByRecursion (λ b. b ≡ false) ms → none_set ms ≡ true
unfolding none_set
none_set_all [] all = refl
none_set_all (m ∷ ms) all = rw all.0 (none_set_all ms all.1)

module _ (ms : List Bool) where
  abbrev filled : ℕ
  filled = 8 * ((length ms + 7) / 8)

  nothing_behind : (i : ℕ) → get_or (tabulate filled (at ms)) (length ms + i) false ≡ false
  nothing_behind i = go (cases_lt (length ms + i) filled)
    where
      past : at ms (length ms + i) ≡ false
      past = get_or_past ms (length ms + i) false (omega arith)

      go : (length ms + i < filled) ⊎ (filled ≤ length ms + i) → get_or (tabulate filled (at ms)) (length ms + i) false ≡ false
      go (inl within) = get_or-map-range_with_len (at ms) 0 filled (length ms + i) (length ms + i) false within (omega arith) ∙ past
      go (inr beyond) = get_or_past (tabulate filled (at ms)) (length ms + i) false (rw (length-map-range_with_len (at ms) 0 filled) beyond)

  rest_unset : none_set (drop (length ms) (tabulate filled (at ms))) ≡ true
  rest_unset =
      let rest = drop (length ms) (tabulate filled (at ms)) in
      none_set_all rest (All-from_get_or (λ b. b ≡ false) rest false (λ i _. get_or-drop (length ms) (tabulate filled (at ms)) i false ∙ nothing_behind i))

  first_are : take (length ms) (tabulate filled (at ms)) ≡ ms
  first_are = take-map-range_with_len (at ms) 0 filled (length ms) (omega arith) ∙ sym (fill_by_all (at ms) ms (length ms) false refl (λ k _. refl))

pub meanings_back : (ms : List Bool) → length ms ≤ 1024 → parse_meanings (length ms) (meanings_file ms) ≡ Ok ms
meanings_back ms few =
    let n = length ms in
    let number = digits 256 2 n in
    let number_size : length number ≡ 2 = length_digits 256 2 n in
    let bytes : length (packed ms) ≡ (n + 7) / 8 = length-map-range_with_len _ 0 ((n + 7) / 8) in
    let size : length (meanings_file ms) ≡ 3 + (n + 7) / 8 = omega (arith, length-append number (packed ms)) in
    rw (
      eq-eqb (length (meanings_file ms)) (3 + (n + 7) / 8) size,
      take_at number (packed ms) 2 number_size,
      number_digits 256 2 n (omega arith) (omega arith),
      eq-eqb n n refl,
      drop_at number (packed ms) 2 number_size,
      unpacked_packed ms,
      rest_unset ms,
      first_are ms,
    )
