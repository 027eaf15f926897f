-- What a maker and the notary send is opened to the circuit's result. Assumes nothing.
use Rattle.std.proofs.Common.{◌≡◌, ℕ, zero, suc, ◌+◌, ◌-◌, ◌^◌, ◌<◌, ◌≤◌, Bool, false, List, [], ◌∷◌, ◌++◌, map, length, take, drop, Ok, Err, sym, refl, ap, ◌∙◌, subst, ap₂, arith}
use mathlib.Core.List.{zip_with}
use lib.Bits.{xor_lt}
use Rattle.std.specs.List.{range_with_len, AllByRecursion}
use Rattle.std.proofs.lemmas.List.FromFn.{length-map-range_with_len}
use Rattle.std.proofs.ByRecursion.{All-map}
use Rattle.std.proofs.lemmas.List.{get_or-take, length-map, length-take-le, take-append-drop}
use Rattle.circuit.specs.Circuit.{Circuit, WellFormed, wire_count, at, result}
use Rattle.circuit.specs.Numbers.{bit}
use Rattle.circuit.specs.Refusals.{Answer, ◌and_then◌}
use Rattle.circuit.proofs.AndThen.{no_answer, then_is}
use Rattle.evaluate.specs.Evaluated.{evaluated, OpensRight}
use Rattle.garble.specs.Formats.{tables_file, meanings_file, parse_tables, parse_meanings}
use Rattle.garble.specs.Garbled.{TextHash, pad_by, closed_row, Files, files_of, key_for, maker_keys, closed_tables}
use Rattle.garble.specs.Interpretation.{BlockHash, interpretation}
use Rattle.garble.proofs.Written.{tables_back, meanings_back}
use Rattle.keys.specs.Drawing.{drawn, key_of, coins_of, Lawful}
use Rattle.keys.specs.Files.{keys_file, keys_for, notarized}
use Rattle.keys.specs.declared.wires.WireKeys.{WireKeys}
use Rattle.keys.proofs.Draws.{draws_lawful}
use Rattle.keys.proofs.Filed.{keys_are_back}
use Rattle.scheme.specs.Bytes.{Block, Drawn, value, xor_bytes, colour_of}
use Rattle.scheme.specs.Garbling.{Key, Row, tabulate, value_key, meanings, sent}
use Rattle.scheme.specs.Opening.{evaluate_by}
use Rattle.scheme.specs.Terms.{secret}
use Rattle.scheme.specs.Yao.{gate_at, row_of, held_for, by_colour, numbered, yao}
use Rattle.scheme.proofs.Blocks.{bytes_size}
use Rattle.scheme.proofs.Lists.{equal_tabulate}
use Rattle.scheme.proofs.Stated.{statement}
use Rattle.evaluate.proofs.Sent.{notarized_is, garbled_is, garbled_refused, tables_are, openers_are, makers_are}

-- exclusive or of blocks is a block
pub xor_block : (a b : List ℕ) → Block a → Block b → Block (xor_bytes a b)
unfolding zip_with
xor_block a b a_Block b-block = (bytes_size 16 a b a_Block.0 b-block.0, small a b a_Block.1 b-block.1)
  where
    small : (a b : List ℕ) → AllByRecursion (λ x. x < 256) a → AllByRecursion (λ x. x < 256) b → AllByRecursion (λ x. x < 256) (xor_bytes a b)
    small [] b p q = tt
    small (x ∷ a) [] p q = tt
    small (x ∷ a) (y ∷ b) p q = (xor_lt 8 x y p.0 q.0, small a b p.1 q.1)

all_counted : {X : Type 0} (P : X → Type 0) (f : ℕ → X) (a n : ℕ) → ((i : ℕ) → i < n → P (f (a + i))) → AllByRecursion P (map f (range_with_len a n))
all_counted P f a zero each = tt
all_counted P f a (suc n) each =
    let z : a + 0 ≡ a = omega arith in
    (subst (λ i. P (f i)) z (each 0 (omega arith)), all_counted P f (a + 1) n (λ i below. let e : a + suc i ≡ a + 1 + i = omega arith in subst (λ j. P (f j)) e (each (suc i) (omega arith))))

module _ (h : TextHash) (hashed : BlockHash h) (c : Circuit) (good : WellFormed c) (xs : List Bool) (fit : length xs ≡ c.inputs) (ws : List WireKeys) (lawful : Lawful (wire_count c) ws) where
  abbrev coins : List Bool
  coins = coins_of ws

  abbrev openers : List (List ℕ)
  openers = tabulate c.opener (λ w. key_for c ws w (at (take c.opener xs) w))

  abbrev makers : List (List ℕ)
  makers = maker_keys c ws (drop c.opener xs)

  abbrev tables : List (List (List ℕ))
  tables = closed_tables c ws h

  abbrev d : Drawn Key
  d = interpretation h hashed ws lawful.blocks

  row_block : (r : Row) → Block (closed_row h ws r)
  row_block r = xor_block (key_of ws r.holds) (pad_by h (map (key_of ws) r.keys) r.tweak) (lawful.blocks r.holds) (d.hash_block (map (key_of ws) r.keys) r.tweak)

  rows_block : (rs : List Row) → AllByRecursion Block (map (closed_row h ws) rs)
  rows_block [] = tt
  rows_block (r ∷ rs) = (row_block r, rows_block rs)

  abbrev rows_of : ℕ → List Row
  rows_of k = tabulate (2 ^ length (gate_at c k).wires) (λ p. row_of numbered c k (by_colour (at coins) (gate_at c k) p) (held_for c (at coins) k (by_colour (at coins) (gate_at c k) p)))

  four_rows : (k : ℕ) → k < length c.gates → length (map (closed_row h ws) (rows_of k)) ≡ 4
  four_rows k below =
      length-map (rows_of k) (closed_row h ws)
      ∙ length-map-range_with_len (λ p. row_of numbered c k (by_colour (at coins) (gate_at c k) p) (held_for c (at coins) k (by_colour (at coins) (gate_at c k) p))) 0 (2 ^ length (gate_at c k).wires)
      ∙ ap (λ n. 2 ^ n) (good.4 k below).0

  tables_good : AllByRecursion (λ t. (length t ≡ 4) × AllByRecursion Block t) tables
  tables_good =
      All-map (λ (t : List (List ℕ)). (length t ≡ 4) × AllByRecursion Block t) (map (closed_row h ws)) (yao.tables c coins)
      (all_counted (λ (rs : List Row). (length (map (closed_row h ws) rs) ≡ 4) × AllByRecursion Block (map (closed_row h ws) rs)) rows_of 0 (length c.gates) (λ k below.
      (four_rows (0 + k) (omega arith), rows_block (rows_of (0 + k)))))

  tables_size : length tables ≡ length c.gates
  tables_size = length-map (yao.tables c coins) (map (closed_row h ws)) ∙ length-map-range_with_len rows_of 0 (length c.gates)

  tables_read : parse_tables (length c.gates) (tables_file 0 tables) ≡ Ok tables
  tables_read = subst (λ n. parse_tables n (tables_file 0 tables) ≡ Ok tables) tables_size (tables_back tables tables_good (omega (arith, tables_size, good.2)))

  meanings_size : length (meanings yao c coins) ≡ length c.outputs
  meanings_size = length-map c.outputs (at coins)

  meanings_read : parse_meanings (length c.outputs) (meanings_file (meanings yao c coins)) ≡ Ok (meanings yao c coins)
  meanings_read =
      subst (λ n. parse_meanings n (meanings_file (meanings yao c coins)) ≡ Ok (meanings yao c coins)) meanings_size
      (meanings_back (meanings yao c coins) (omega (arith, meanings_size, good.3)))

  -- keys for as many wires as there are inputs
  keys_read : (f : ℕ → ℕ) (v : ℕ → Bool) (n : ℕ) → n ≤ 1024 → keys_for n (keys_file (tabulate n (λ i. key_for c ws (f i) (v i)))) ≡ Ok (tabulate n (λ i. key_for c ws (f i) (v i)))
  keys_read f v n few =
      keys_are_back n (tabulate n (λ i. key_for c ws (f i) (v i))) (length-map-range_with_len (λ i. key_for c ws (f i) (v i)) 0 n) (omega arith)
      (all_counted Block (λ i. key_for c ws (f i) (v i)) 0 n (λ i below. lawful.blocks (value_key yao c coins (f (0 + i)) (v (0 + i)))))

  all_keys : openers ++ makers ≡ map (λ t. value d t) (sent yao c xs coins).keys
  all_keys =
      ap₂ (λ (os ms : List (List ℕ)). os ++ ms)
      (equal_tabulate (λ w. key_for c ws w (at (take c.opener xs) w)) (λ w. key_for c ws w (at xs w)) c.opener (λ w below.
      ap (key_for c ws w) (get_or-take c.opener xs w false below))
      ∙ sym (openers_are h hashed ws lawful.blocks c good xs))
      (sym (makers_are h hashed ws lawful.blocks c good xs))
      ∙ take-append-drop c.opener (map (λ t. value d t) (sent yao c xs coins).keys)

  coloured : (k : Key) → k.wire < wire_count c → colour_of (value d (secret k)) ≡ k.colour
  unfolding value
  coloured k made = lawful.colours k made

  opened : evaluate_by numbered (pad_by h) c (openers ++ makers) tables (meanings yao c coins) ≡ result c xs
  opened =
      ap₂ (λ ks ts. evaluate_by numbered (pad_by h) c ks ts (meanings yao c coins)) all_keys (sym (tables_are h hashed ws lawful.blocks (yao.tables c coins)))
      ∙ statement.promises.right c xs coins (record { well_formed = good; inputs = fit; drawn = length-map ws (λ (w : WireKeys). w.coin) ∙ lawful.size }) d coloured

  evaluated_is : evaluated h c (keys_file openers) (keys_file makers) (tables_file 0 tables) (meanings_file (meanings yao c coins)) ≡ Ok (result c xs)
  evaluated_is =
      let ms = meanings yao c coins in
      then_is (λ os. keys_for (c.inputs - c.opener) (keys_file makers) and_then λ ks. parse_tables (length c.gates) (tables_file 0 tables) and_then λ ts.
      parse_meanings (length c.outputs) (meanings_file ms) and_then λ ds. Ok (evaluate_by numbered (pad_by h) c (os ++ ks) ts ds))
      (keys_read (λ w. w) (λ w. at (take c.opener xs) w) c.opener (omega (arith, good.0, good.1)))
      ∙ then_is (λ ks. parse_tables (length c.gates) (tables_file 0 tables) and_then λ ts.
      parse_meanings (length c.outputs) (meanings_file ms) and_then λ ds. Ok (evaluate_by numbered (pad_by h) c (openers ++ ks) ts ds))
      (keys_read (λ i. c.opener + i) (λ i. at (drop c.opener xs) i) (c.inputs - c.opener) (omega (arith, good.0)))
      ∙ then_is (λ ts. parse_meanings (length c.outputs) (meanings_file ms) and_then λ ds. Ok (evaluate_by numbered (pad_by h) c (openers ++ makers) ts ds)) tables_read
      ∙ then_is (λ ds. Ok (evaluate_by numbered (pad_by h) c (openers ++ makers) tables ds)) meanings_read ∙ ap Ok opened

-- of whatever a maker makes
pub opens_right : (h : TextHash) → BlockHash h → (c : Circuit) → WellFormed c → OpensRight h c
opens_right h hashed c good xs bytes f fit small made = go (drawn (wire_count c) bytes) refl
  where
    go : (a : Answer (List WireKeys)) → drawn (wire_count c) bytes ≡ a →
        (os : List ℕ) × (notarized f.notary (map bit (take c.opener xs)) ≡ Ok os) × (evaluated h c os f.maker f.tables f.meanings ≡ Ok (result c xs))
    go (Ok ws) is =
        let lawful = draws_lawful (wire_count c) bytes small ws is in
        let own = take c.opener xs in
        let given : ◌≡◌ {A = Answer Files} (Ok f) (Ok (files_of c ws h (drop c.opener xs))) = sym made ∙ garbled_is h c xs bytes ws fit is in
        let same : f ≡ files_of c ws h (drop c.opener xs) = cc in
        subst
        (λ (f : Files). (os : List ℕ) × (notarized f.notary (map bit own) ≡ Ok os) × (evaluated h c os f.maker f.tables f.meanings ≡ Ok (result c xs))) (sym same) (
          keys_file (tabulate c.opener (λ w. key_for c ws w (at own w))),
          notarized_is c good ws lawful.blocks own (length-take-le c.opener xs (omega (arith, good.1))),
          evaluated_is h hashed c good xs fit ws lawful,
        )
    go (Err n) is = no_answer (sym (garbled_refused h c xs bytes n fit is) ∙ made)
