-- Paired bytes and the exchanged hash send the same, to the last byte. Assumes nothing.
use Rattle.std.proofs.Common.{◌≡◌, ℕ, ◌+◌, ◌-◌, ◌<◌, Bool, true, false, not, ◌⊎◌, List, [], ◌∷◌, map, length, take, drop, Ok, Err, sym, refl, ap, ◌∙◌, subst, ap₂, arith}
use mathlib.Core.List.{zip_with}
use Rattle.std.specs.List.{AllByRecursion}
use Rattle.std.proofs.ByRecursion.{All-weaker}
use Rattle.std.proofs.lemmas.List.{get_or-drop, length-map}
use Rattle.std.proofs.lemmas.Bool.{and_parts, and_from}
use Rattle.circuit.specs.Circuit.{Circuit, WellFormed, wire_count, at, result}
use Rattle.circuit.specs.Numbers.{bit}
use Rattle.circuit.specs.Refusals.{Answer, ◌and_then◌}
use Rattle.circuit.proofs.Numbers.{length_bits}
use Rattle.circuit.proofs.AndThen.{then_is, then_err}
use Rattle.evaluate.proofs.Sent.{garbled_refused}
use Rattle.garble.specs.Garbled.{TextHash, Files, closed_row, key_for, maker_keys, closed_tables}
use Rattle.garble.specs.Interpretation.{BlockHash}
use Rattle.keys.specs.Drawing.{Bytes, drawn, key_of, coins_of, Lawful}
use Rattle.keys.specs.Files.{notarized}
use Rattle.keys.specs.declared.wires.WireKeys.{WireKeys}
use Rattle.keys.proofs.Draws.{draws_lawful}
use Rattle.scheme.specs.Bytes.{Block, xor_bytes}
use Rattle.scheme.specs.Coins.{◌⊕◌, colour, active_colour, coins_of_pair, Paired}
use Rattle.scheme.specs.Garbling.{Key, key, tabulate, all_held, meanings}
use Rattle.scheme.specs.Yao.{gate_at, by_colour, yao}
use Rattle.scheme.proofs.Lists.{equal_tabulate}
use Rattle.scheme.proofs.Pairs.{pairs, kept_outputs}
use Rattle.scheme.proofs.Rows.{input_value, wires_below}
use Rattle.promise.specs.Exchange.{row_at, row_count, held_at, exchanged, exchanged_by, ClosedText}
use Rattle.promise.specs.Pairing.{paired_bytes, paired_wires, paired_hash}
use Rattle.promise.specs.Promise.{PairsBytes, SameReceived}
use Rattle.promise.specs.Received.{received}
use Rattle.promise.proofs.Concluded.{concluded}
use Rattle.promise.proofs.Exchanged.{exchanged_block, row_same, exchanged_back, elsewhere, map_tables, text_same, exchanged_same, open_holds}
use Rattle.promise.proofs.Interpreted.{filed, received_is}
use Rattle.promise.proofs.PairedDraws.{pairs_bytes}

-- where no keys can be drawn nothing is received
pub refused_by : (c : Circuit) (n : ℕ) (f : TextHash) (xs : List Bool) (bytes : List ℕ) → length xs ≡ c.inputs → drawn (wire_count c) bytes ≡ Err n → received f c xs bytes ≡ Err n
refused_by c n f xs bytes fit none =
    then_err (λ (r : Files). notarized r.notary (map bit (take c.opener xs)) and_then λ os. Ok (record { openers = os; makers = r.maker; tables = r.tables; meanings = r.meanings }))
    (garbled_refused f c xs bytes n fit none)

-- one who holds the same keys of the wires at hand holds the same of a row
all_held_same : (held other : ℕ → Bool) (us : List ℕ) (cs : List Bool) → AllByRecursion (λ w. held w ≡ other w) us → all_held held (zip_with key us cs) ≡ true → all_held other (zip_with key us cs) ≡ true
unfolding zip_with
all_held_same held other [] cs same all = refl
all_held_same held other (w ∷ us) [] same all = refl
all_held_same held other (w ∷ us) (b ∷ cs) same all =
    let both = and_parts (not (b ⊕ held w)) (all_held held (zip_with key us cs)) all in
    and_from (not (b ⊕ other w)) (all_held other (zip_with key us cs)) (ap (λ x. not (b ⊕ x)) (sym same.0) ∙ both.0) (all_held_same held other us cs same.1 both.1)

module _ (c : Circuit) (good : WellFormed c) (xs ys : List Bool) (xs_fit : length xs ≡ c.inputs) (ys_fit : length ys ≡ c.inputs) (one_result : result c xs ≡ result c ys)
    (bytes : List ℕ) (small : Bytes bytes) (h : TextHash) (hashed : BlockHash h) where
  abbrev paired : PairsBytes c xs ys bytes
  paired = pairs_bytes c xs ys bytes

  -- where keys can be drawn
  module _ (ws : List WireKeys) (is : drawn (wire_count c) bytes ≡ Ok ws) where
    abbrev vs : List WireKeys
    vs = paired_wires c xs ys ws

    abbrev g : TextHash
    g = exchanged c ws (held_at c ws) (held_at c vs) h

    abbrev coins : List Bool
    coins = coins_of ws

    lawful : Lawful (wire_count c) ws
    lawful = draws_lawful (wire_count c) bytes small ws is

    is_too : drawn (wire_count c) (paired_bytes c xs ys bytes) ≡ Ok vs
    is_too = paired.drawn ∙ then_is (λ ws. Ok (paired_wires c xs ys ws)) is

    alike : (k : Key) → key_of vs k ≡ key_of ws k
    alike = paired.keys ws lawful.size

    keyed_too : (k : Key) → Block (key_of vs k)
    keyed_too k = subst Block (sym (alike k)) (lawful.blocks k)

    coins_are : coins_of vs ≡ coins_of_pair c xs ys coins
    coins_are = paired.coins ws lawful.size

    coins_size : length coins ≡ wire_count c
    coins_size = length-map ws (λ (w : WireKeys). w.coin) ∙ lawful.size

    coins_paired : Paired c xs ys coins (coins_of vs)
    coins_paired = subst (Paired c xs ys coins) (sym coins_are) (pairs c xs ys coins good xs_fit ys_fit coins_size)

    held_block : (k p : ℕ) → Block (held_at c ws k p)
    held_block k p = lawful.blocks (row_at c coins k p).holds

    held_block_too : (k p : ℕ) → Block (held_at c vs k p)
    held_block_too k p = keyed_too (row_at c (coins_of vs) k p).holds

    -- rows
    tables_same : closed_tables c vs g ≡ closed_tables c ws h
    tables_same =
        let n = length c.gates in
        map_tables (closed_row g vs) n (row_count c) (row_at c (coins_of vs))
        ∙ equal_tabulate (λ k. tabulate (row_count c k) (λ p. closed_row g vs (row_at c (coins_of vs) k p))) (λ k. tabulate (row_count c k) (λ p. closed_row h ws (row_at c coins k p))) n
        (λ k gate.
        equal_tabulate (λ p. closed_row g vs (row_at c (coins_of vs) k p)) (λ p. closed_row h ws (row_at c coins k p)) (row_count c k) (λ p place.
        ap (λ t. xor_bytes (held_at c vs k p) (g t)) (text_same c good ws vs alike k p)
        ∙ row_same c good ws (held_at c ws) (held_at c vs) held_block held_block_too h hashed k p gate place))
        ∙ sym (map_tables (closed_row h ws) n (row_count c) (row_at c coins))

    -- a row that is open holds the same key in both
    abbrev act : ℕ → Bool
    act w = active_colour c xs coins w

    open_same : (k p : ℕ) → k < length c.gates → all_held act (row_at c coins k p).keys ≡ true → held_at c vs k p ≡ held_at c ws k p
    open_same k p gate all =
        let us = (gate_at c k).wires in
        let cs = by_colour (at coins) (gate_at c k) p in
        let size : length cs ≡ length us = length_bits (length us) p in
        let mine = open_holds c good xs xs_fit coins cs k gate size all in
        let others = open_holds c good ys ys_fit (coins_of vs) cs k gate size
        (all_held_same act (active_colour c ys (coins_of vs)) us cs (All-weaker (λ w. w < wire_count c) (λ w. act w ≡ active_colour c ys (coins_of vs) w)
        (λ w made. sym (coins_paired.colours w made)) us (wires_below c good k gate)) all) in
        alike (row_at c (coins_of vs) k p).holds ∙ ap (λ b. key_of ws (key (c.inputs + k) b)) (others ∙ coins_paired.colours (c.inputs + k) (omega arith) ∙ sym mine)

    -- inputs' keys
    key_same : (w : ℕ) → w < c.inputs → key_for c vs w (at ys w) ≡ key_for c ws w (at xs w)
    key_same w below =
        alike (key w (colour (at (coins_of vs) w) (at ys w)))
        ∙ ap (λ b. key_of ws (key w b))
        (ap (colour (at (coins_of vs) w)) (sym (input_value c good ys ys_fit w below)) ∙ coins_paired.colours w (omega arith)
        ∙ ap (colour (at coins w)) (input_value c good xs xs_fit w below))

    openers_same : tabulate c.opener (λ w. key_for c vs w (at ys w)) ≡ tabulate c.opener (λ w. key_for c ws w (at xs w))
    openers_same = equal_tabulate (λ w. key_for c vs w (at ys w)) (λ w. key_for c ws w (at xs w)) c.opener (λ w below. key_same w (omega (arith, good.1)))

    makers_same : maker_keys c vs (drop c.opener ys) ≡ maker_keys c ws (drop c.opener xs)
    makers_same =
        equal_tabulate (λ i. key_for c vs (c.opener + i) (at (drop c.opener ys) i)) (λ i. key_for c ws (c.opener + i) (at (drop c.opener xs) i)) (c.inputs - c.opener)
        (λ i below.
        ap (key_for c vs (c.opener + i)) (get_or-drop c.opener ys i false) ∙ key_same (c.opener + i) (omega arith)
        ∙ ap (key_for c ws (c.opener + i)) (sym (get_or-drop c.opener xs i false)))

    meanings_same : meanings yao c (coins_of vs) ≡ meanings yao c coins
    meanings_same = ap (meanings yao c) coins_are ∙ kept_outputs c xs ys coins good xs_fit ys_fit coins_size one_result

    same : received g c ys (paired_bytes c xs ys bytes) ≡ received h c xs bytes
    same =
        received_is c good ys ys_fit (paired_bytes c xs ys bytes) vs is_too keyed_too g
        ∙ ap₂ (λ os ms. Ok (filed os ms (closed_tables c vs g) (meanings yao c (coins_of vs)))) openers_same makers_same
        ∙ ap₂ (λ ts ms. Ok (filed (tabulate c.opener (λ w. key_for c ws w (at xs w))) (maker_keys c ws (drop c.opener xs)) ts ms))
        tables_same meanings_same
        ∙ sym (received_is c good xs xs_fit bytes ws is lawful.blocks h)

    hash_is : paired_hash c xs ys bytes h ≡ g
    hash_is = ap (exchanged_by c (held_at c) (λ us. held_at c (paired_wires c xs ys us)) h) is

    -- pairing back draws what was drawn
    wires_back : paired_wires c ys xs vs ≡ ws
    wires_back =
        let there = (pairs_bytes c ys xs (paired_bytes c xs ys bytes)).drawn ∙ then_is (λ us. Ok (paired_wires c ys xs us)) is_too in
        let again : drawn (wire_count c) (paired_bytes c ys xs (paired_bytes c xs ys bytes)) ≡ Ok ws = ap (drawn (wire_count c)) paired.back ∙ is in
        let both : ◌≡◌ {A = Answer (List WireKeys)} (Ok (paired_wires c ys xs vs)) (Ok ws) = sym there ∙ again in
        cc

    hash_back : (t : List ℕ) → paired_hash c ys xs (paired_bytes c xs ys bytes) g t ≡ h t
    hash_back t =
        ap (λ a. exchanged_by c (held_at c) (λ us. held_at c (paired_wires c ys xs us)) g a t) is_too
        ∙ ap (λ us. exchanged c vs (held_at c vs) (held_at c us) g t) wires_back ∙ exchanged_same c good ws vs alike (held_at c vs) (held_at c ws) g t
        ∙ exchanged_back c good ws (held_at c ws) (held_at c vs) held_block held_block_too h hashed t

    hash_elsewhere : (t : List ℕ) → (paired_hash c xs ys bytes h t ≡ h t) ⊎ ClosedText c xs ws t
    hash_elsewhere =
        subst (λ f. (t : List ℕ) → (f t ≡ h t) ⊎ ClosedText c xs ws t) (sym hash_is)
        (elsewhere c good ws (held_at c ws) (held_at c vs) held_block held_block_too h hashed xs xs_fit coins_size open_same)

    hash_blocks : BlockHash (paired_hash c xs ys bytes h)
    hash_blocks = subst BlockHash (sym hash_is) (exchanged_block c good ws (held_at c ws) (held_at c vs) held_block held_block_too h hashed)

    all_same : received (paired_hash c xs ys bytes h) c ys (paired_bytes c xs ys bytes) ≡ received h c xs bytes
    all_same = subst (λ f. received f c ys (paired_bytes c xs ys bytes) ≡ received h c xs bytes) (sym hash_is) same

    all_back : (t : List ℕ) → paired_hash c ys xs (paired_bytes c xs ys bytes) (paired_hash c xs ys bytes h) t ≡ h t
    all_back = subst (λ f. (t : List ℕ) → paired_hash c ys xs (paired_bytes c xs ys bytes) f t ≡ h t) (sym hash_is) hash_back

  -- where they cannot be drawn, nothing is sent by either
  module _ (n : ℕ) (is : drawn (wire_count c) bytes ≡ Err n) where
    is_refused : drawn (wire_count c) (paired_bytes c xs ys bytes) ≡ Err n
    is_refused = paired.drawn ∙ then_err (λ ws. Ok (paired_wires c xs ys ws)) is

    hash_stays : paired_hash c xs ys bytes h ≡ h
    hash_stays = ap (exchanged_by c (held_at c) (λ us. held_at c (paired_wires c xs ys us)) h) is

    refused_same : received (paired_hash c xs ys bytes h) c ys (paired_bytes c xs ys bytes) ≡ received h c xs bytes
    refused_same = refused_by c n (paired_hash c xs ys bytes h) ys (paired_bytes c xs ys bytes) ys_fit is_refused ∙ sym (refused_by c n h xs bytes xs_fit is)

    refused_back : (t : List ℕ) → paired_hash c ys xs (paired_bytes c xs ys bytes) (paired_hash c xs ys bytes h) t ≡ h t
    refused_back t = ap (λ a. exchanged_by c (held_at c) (λ us. held_at c (paired_wires c ys xs us)) (paired_hash c xs ys bytes h) a t) is_refused ∙ ap (λ (f : TextHash). f t) hash_stays

  abbrev Told : Type 0
  Told =
      BlockHash (paired_hash c xs ys bytes h) × (received (paired_hash c xs ys bytes h) c ys (paired_bytes c xs ys bytes) ≡ received h c xs bytes)
      × ((t : List ℕ) → paired_hash c ys xs (paired_bytes c xs ys bytes) (paired_hash c xs ys bytes h) t ≡ h t)

  told : (a : Answer (List WireKeys)) → drawn (wire_count c) bytes ≡ a → Told
  told (Ok ws) is = (hash_blocks ws is, all_same ws is, all_back ws is)
  told (Err n) is = (subst BlockHash (sym (hash_stays n is)) hashed, refused_same n is, refused_back n is)

  pub same_received : SameReceived c xs ys bytes h
  same_received =
      let here = told (drawn (wire_count c) bytes) refl in
      record {
        hashed = here.0;
        received = here.1;
        back = here.2;
        elsewhere = λ ws is. hash_elsewhere ws is;
        concluded = λ ws is o never. concluded c xs ws h (paired_hash c xs ys bytes h) (hash_elsewhere ws is) o never;
      }
