-- The simulator makes, from a tape and an exchanged hash, all that is received, to the last byte. Assumes nothing.
use Rattle.std.proofs.Common.{◌≡◌, ℕ, ◌+◌, ◌<◌, Bool, true, ◌⊎◌, List, [], ◌∷◌, map, length, take, drop, Ok, Err, sym, refl, ap, ◌∙◌, subst, ap₂, arith}
use mathlib.Core.List.{zip_with}
use Rattle.std.specs.List.{AllByRecursion}
use Rattle.std.proofs.lemmas.List.FromFn.{take-map-range_with_len}
use Rattle.std.proofs.ByRecursion.{All-from_get_or}
use Rattle.std.proofs.lemmas.List.{length-map}
use Rattle.circuit.specs.Circuit.{Circuit, WellFormed, wire_count, at, at_all, values, result}
use Rattle.circuit.specs.Refusals.{Answer, ◌and_then◌}
use Rattle.circuit.proofs.AndThen.{then_is, then_err}
use Rattle.circuit.proofs.Numbers.{length_bits}
use Rattle.circuit.proofs.Values.{assigned}
use Rattle.evaluate.proofs.Sent.{makers_of}
use Rattle.garble.specs.Garbled.{TextHash, closed_row, key_for, maker_keys, closed_tables}
use Rattle.garble.specs.Interpretation.{BlockHash}
use Rattle.keys.specs.Drawing.{Bytes, drawn, draw_wires, key_of, coins_of, Lawful}
use Rattle.keys.specs.declared.wires.WireKeys.{WireKeys}
use Rattle.keys.proofs.Draws.{draws_lawful}
use Rattle.scheme.specs.Bytes.{Block, xor_bytes}
use Rattle.scheme.specs.Coins.{◌⊕◌, colour, active_colour}
use Rattle.scheme.specs.Garbling.{Key, key, Row, tabulate, all_held}
use Rattle.scheme.specs.Simulation.{fake_tables}
use Rattle.scheme.specs.Yao.{gate_at, row_of, by_colour, numbered}
use Rattle.scheme.proofs.Colours.{xor_comm, xor_twice}
use Rattle.scheme.proofs.Lists.{conses, equal_tabulate}
use Rattle.scheme.proofs.Rows.{input_value}
use Rattle.promise.specs.Exchange.{row_at, row_count, held_at, exchanged, exchanged_by, ClosedText}
use Rattle.promise.specs.Pairing.{recoined, recoined_wires}
use Rattle.promise.specs.Promise.{Simulates}
use Rattle.promise.specs.Received.{received}
use Rattle.promise.specs.Simulation.{held_key, fake_held, simulated_files, simulated, tape_for, tape_wires, simulated_hash, maker's_hash}
use Rattle.promise.proofs.Concluded.{concluded}
use Rattle.promise.proofs.Exchanged.{exchanged_block, row_same, exchanged_back, elsewhere, map_tables, text_same, exchanged_same, open_holds}
use Rattle.promise.proofs.Interpreted.{filed, received_is}
use Rattle.promise.proofs.PairedDraws.{recoined_keys, recoined_coin}
use Rattle.promise.proofs.Recoined.{recoined_drawn, recoined_back, recoined_size, recoined_small}
use Rattle.promise.proofs.Unchanged.{refused_by}

module _ (c : Circuit) (good : WellFormed c) (xs : List Bool) (fit : length xs ≡ c.inputs) where
  values_size : length (values c xs) ≡ wire_count c
  values_size = (assigned c xs good fit).size

  tape_drawn : (bytes : List ℕ) → drawn (wire_count c) (tape_for c xs bytes) ≡ (drawn (wire_count c) bytes and_then λ ws. Ok (tape_wires c xs ws))
  tape_drawn bytes =
      subst (λ n. draw_wires n [] (recoined (values c xs) [] bytes) ≡ (draw_wires n [] bytes and_then λ ws. Ok (recoined_wires (values c xs) ws))) values_size
      (recoined_drawn (values c xs) [] bytes)

  tape_back : (bytes : List ℕ) → tape_for c xs (tape_for c xs bytes) ≡ bytes
  tape_back bytes = recoined_back (values c xs) [] bytes

  -- where keys can be drawn
  module _ (bytes : List ℕ) (small : Bytes bytes) (ws : List WireKeys) (is : drawn (wire_count c) bytes ≡ Ok ws) where
    abbrev us : List WireKeys
    us = tape_wires c xs ws

    abbrev coins : List Bool
    coins = coins_of ws

    lawful : Lawful (wire_count c) ws
    lawful = draws_lawful (wire_count c) bytes small ws is

    as_many : length (values c xs) ≡ length ws
    as_many = values_size ∙ sym lawful.size

    is_too : drawn (wire_count c) (tape_for c xs bytes) ≡ Ok us
    is_too = tape_drawn bytes ∙ then_is (λ ws. Ok (tape_wires c xs ws)) is

    wires_back : tape_wires c xs us ≡ ws
    wires_back =
        let there = tape_drawn (tape_for c xs bytes) ∙ then_is (λ us. Ok (tape_wires c xs us)) is_too in
        let again : drawn (wire_count c) (tape_for c xs (tape_for c xs bytes)) ≡ Ok ws = ap (drawn (wire_count c)) (tape_back bytes) ∙ is in
        let both : ◌≡◌ {A = Answer (List WireKeys)} (Ok (tape_wires c xs us)) (Ok ws) = sym there ∙ again in
        cc

    alike : (k : Key) → key_of us k ≡ key_of ws k
    alike = recoined_keys (values c xs) ws as_many

    keyed_too : (k : Key) → Block (key_of us k)
    keyed_too k = subst Block (sym (alike k)) (lawful.blocks k)

    held_block : (k p : ℕ) → Block (held_at c ws k p)
    held_block k p = lawful.blocks (row_at c coins k p).holds

    held_block_too : (k p : ℕ) → Block (held_at c us k p)
    held_block_too k p = keyed_too (row_at c (coins_of us) k p).holds

    fake_block : (k p : ℕ) → Block (fake_held c ws k p)
    fake_block k p = lawful.blocks (key (c.inputs + k) (at coins (c.inputs + k)))

    fake_block_too : (k p : ℕ) → Block (fake_held c us k p)
    fake_block_too k p = keyed_too (key (c.inputs + k) (at (coins_of us) (c.inputs + k)))

    coins_size : length coins ≡ wire_count c
    coins_size = length-map ws (λ (w : WireKeys). w.coin) ∙ lawful.size

    -- what the simulator draws for a wire is the colour of its active key
    abbrev act : ℕ → Bool
    act w = active_colour c xs coins w

    colour_is : (w : ℕ) → w < wire_count c → at (coins_of us) w ≡ act w
    colour_is w made = recoined_coin (values c xs) ws as_many w (omega (arith, lawful.size)) ∙ xor_comm (at (values c xs) w) (at coins w)

    held_is : (w : ℕ) → w < wire_count c → held_key c us w ≡ key_of ws (key w (act w))
    held_is w made = alike (key w (at (coins_of us) w)) ∙ ap (λ b. key_of ws (key w b)) (colour_is w made)

    inputs_are : tabulate c.inputs (held_key c us) ≡ tabulate c.inputs (λ w. key_for c ws w (at xs w))
    inputs_are =
        equal_tabulate (held_key c us) (λ w. key_for c ws w (at xs w)) c.inputs (λ w below.
        held_is w (omega arith) ∙ ap (λ v. key_of ws (key w (colour (at coins w) v))) (input_value c good xs fit w below))

    meant : (os : List ℕ) → AllByRecursion (λ w. w < wire_count c) os → zip_with ◌⊕◌ (at_all (coins_of us) os) (at_all (values c xs) os) ≡ map (at coins) os
    unfolding zip_with
    meant [] all = refl
    meant (w ∷ os) all =
        conses (ap (λ b. b ⊕ at (values c xs) w) (colour_is w all.0) ∙ xor_twice (at coins w) (at (values c xs) w)) (meant os all.1)

    module _ (h : TextHash) (hashed : BlockHash h) where
      abbrev g : TextHash
      g = exchanged c ws (held_at c ws) (fake_held c us) h

      tables_are : map (map (closed_row g us)) (fake_tables c (coins_of us)) ≡ closed_tables c ws h
      tables_are =
          let n = length c.gates in
          let fake : ℕ → ℕ → Row = λ k p. row_of numbered c k (by_colour (at (coins_of us)) (gate_at c k) p) (at (coins_of us) (c.inputs + k)) in
          map_tables (closed_row g us) n (row_count c) fake
          ∙ equal_tabulate (λ k. tabulate (row_count c k) (λ p. closed_row g us (fake k p))) (λ k. tabulate (row_count c k) (λ p. closed_row h ws (row_at c coins k p))) n (λ k gate.
          equal_tabulate (λ p. closed_row g us (fake k p)) (λ p. closed_row h ws (row_at c coins k p)) (row_count c k) (λ p place.
          ap (λ t. xor_bytes (fake_held c us k p) (g t)) (text_same c good ws us alike k p)
          ∙ row_same c good ws (held_at c ws) (fake_held c us) held_block fake_block_too h hashed k p gate place))
          ∙ sym (map_tables (closed_row h ws) n (row_count c) (row_at c coins))

      made : simulated c g (result c xs) (tape_for c xs bytes) ≡ received h c xs bytes
      made =
          then_is (λ us. Ok (simulated_files c g (result c xs) us)) is_too
          ∙ ap₂ (λ os ms. Ok (filed os ms (map (map (closed_row g us)) (fake_tables c (coins_of us))) (zip_with ◌⊕◌ (at_all (coins_of us) c.outputs) (result c xs))))
          (ap (take c.opener) inputs_are ∙ take-map-range_with_len (λ w. key_for c ws w (at xs w)) 0 c.inputs c.opener good.1)
          (ap (drop c.opener) inputs_are ∙ makers_of c good ws xs)
          ∙ ap₂ (λ ts ms. Ok (filed (tabulate c.opener (λ w. key_for c ws w (at xs w))) (maker_keys c ws (drop c.opener xs)) ts ms)) tables_are
          (meant c.outputs (All-from_get_or (λ w. w < wire_count c) c.outputs 0 good.5))
          ∙ sym (received_is c good xs fit bytes ws is lawful.blocks h)

      open_same : (k p : ℕ) → k < length c.gates → all_held act (row_at c coins k p).keys ≡ true → fake_held c us k p ≡ held_at c ws k p
      open_same k p gate all =
          let us = (gate_at c k).wires in
          let cs = by_colour (at coins) (gate_at c k) p in
          held_is (c.inputs + k) (omega arith)
          ∙ ap (λ b. key_of ws (key (c.inputs + k) b)) (sym (open_holds c good xs fit coins cs k gate (length_bits (length us) p) all))

      hash_is : simulated_hash c xs bytes h ≡ g
      hash_is = ap (exchanged_by c (held_at c) (λ ws. fake_held c (tape_wires c xs ws)) h) is

      -- there and back
      there_back : (t : List ℕ) → maker's_hash c xs (tape_for c xs bytes) g t ≡ h t
      there_back t =
          ap (λ a. exchanged_by c (fake_held c) (λ ws. held_at c (tape_wires c xs ws)) g a t) is_too ∙ ap (λ vs. exchanged c us (fake_held c us) (held_at c vs) g t) wires_back
          ∙ exchanged_same c good ws us alike (fake_held c us) (held_at c ws) g t ∙ exchanged_back c good ws (held_at c ws) (fake_held c us) held_block fake_block_too h hashed t

      back_there : (t : List ℕ) → simulated_hash c xs (tape_for c xs bytes) (maker's_hash c xs bytes h) t ≡ h t
      back_there t =
          let f : TextHash = exchanged c ws (fake_held c ws) (held_at c us) h in
          ap (λ (e : TextHash). simulated_hash c xs (tape_for c xs bytes) e t) (ap (exchanged_by c (fake_held c) (λ ws. held_at c (tape_wires c xs ws)) h) is)
          ∙ ap (λ a. exchanged_by c (held_at c) (λ ws. fake_held c (tape_wires c xs ws)) f a t) is_too ∙ ap (λ vs. exchanged c us (held_at c us) (fake_held c vs) f t) wires_back
          ∙ exchanged_same c good ws us alike (held_at c us) (fake_held c ws) f t ∙ exchanged_back c good ws (fake_held c ws) (held_at c us) fake_block held_block_too h hashed t

      only_closed : (t : List ℕ) → (simulated_hash c xs bytes h t ≡ h t) ⊎ ClosedText c xs ws t
      only_closed =
          subst (λ f. (t : List ℕ) → (f t ≡ h t) ⊎ ClosedText c xs ws t) (sym hash_is)
          (elsewhere c good ws (held_at c ws) (fake_held c us) held_block fake_block_too h hashed xs fit coins_size open_same)

      hash_blocks : BlockHash (simulated_hash c xs bytes h)
      hash_blocks = subst BlockHash (sym hash_is) (exchanged_block c good ws (held_at c ws) (fake_held c us) held_block fake_block_too h hashed)

      all_made : simulated c (simulated_hash c xs bytes h) (result c xs) (tape_for c xs bytes) ≡ received h c xs bytes
      all_made = subst (λ f. simulated c f (result c xs) (tape_for c xs bytes) ≡ received h c xs bytes) (sym hash_is) made

      all_back : (t : List ℕ) → maker's_hash c xs (tape_for c xs bytes) (simulated_hash c xs bytes h) t ≡ h t
      all_back = subst (λ f. (t : List ℕ) → maker's_hash c xs (tape_for c xs bytes) f t ≡ h t) (sym hash_is) there_back

  -- where no keys can be drawn, the simulator makes nothing either
  module _ (bytes : List ℕ) (n : ℕ) (is : drawn (wire_count c) bytes ≡ Err n) (h : TextHash) where
    none_too : drawn (wire_count c) (tape_for c xs bytes) ≡ Err n
    none_too = tape_drawn bytes ∙ then_err (λ ws. Ok (tape_wires c xs ws)) is

    simulated_stays : simulated_hash c xs bytes h ≡ h
    simulated_stays = ap (exchanged_by c (held_at c) (λ ws. fake_held c (tape_wires c xs ws)) h) is

    none_made : simulated c (simulated_hash c xs bytes h) (result c xs) (tape_for c xs bytes) ≡ received h c xs bytes
    none_made =
        then_err (λ us. Ok (simulated_files c (simulated_hash c xs bytes h) (result c xs) us)) none_too
        ∙ sym (refused_by c n h xs bytes fit is)

    none_back : (t : List ℕ) → maker's_hash c xs (tape_for c xs bytes) (simulated_hash c xs bytes h) t ≡ h t
    none_back t =
        ap (λ a. exchanged_by c (fake_held c) (λ ws. held_at c (tape_wires c xs ws)) (simulated_hash c xs bytes h) a t) none_too
        ∙ ap (λ (f : TextHash). f t) simulated_stays

    none_there : (t : List ℕ) → simulated_hash c xs (tape_for c xs bytes) (maker's_hash c xs bytes h) t ≡ h t
    none_there t =
        ap (λ a. exchanged_by c (held_at c) (λ ws. fake_held c (tape_wires c xs ws)) (maker's_hash c xs bytes h) a t) none_too
        ∙ ap (λ (a : Answer (List WireKeys)). exchanged_by c (fake_held c) (λ ws. held_at c (tape_wires c xs ws)) h a t) is

  module _ (bytes : List ℕ) (small : Bytes bytes) (h : TextHash) (hashed : BlockHash h) where
    abbrev Told : Type 0
    Told =
        BlockHash (simulated_hash c xs bytes h) × (simulated c (simulated_hash c xs bytes h) (result c xs) (tape_for c xs bytes) ≡ received h c xs bytes)
        × ((t : List ℕ) → maker's_hash c xs (tape_for c xs bytes) (simulated_hash c xs bytes h) t ≡ h t)
        × ((t : List ℕ) → simulated_hash c xs (tape_for c xs bytes) (maker's_hash c xs bytes h) t ≡ h t)

    told : (a : Answer (List WireKeys)) → drawn (wire_count c) bytes ≡ a → Told
    told (Ok ws) is = (hash_blocks bytes small ws is h hashed, all_made bytes small ws is h hashed, all_back bytes small ws is h hashed, back_there bytes small ws is h hashed)
    told (Err n) is = (subst BlockHash (sym (simulated_stays bytes n is h)) hashed, none_made bytes n is h, none_back bytes n is h, none_there bytes n is h)

    pub simulates : Simulates c xs bytes h
    simulates =
        let here = told (drawn (wire_count c) bytes) refl in
        record {
          hashed = here.0;
          received = here.1;
          size = recoined_size (values c xs) [] bytes;
          small = recoined_small (values c xs) [] bytes small;
          tape_back = tape_back bytes;
          hash_back = here.2;
          hash_there = here.3;
          elsewhere = λ ws is. only_closed bytes small ws is h hashed;
          concluded = λ ws is o never. concluded c xs ws h (simulated_hash c xs bytes h) (only_closed bytes small ws is h hashed) o never;
        }
